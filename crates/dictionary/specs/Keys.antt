-- The keys in a dictionary with room for n of them.
use Rattle.std.specs.Prelude.{List, ℕ, ◌+◌, ◌*◌, get_or}
use Rattle.laws.specs.Tables.{table}

-- key i by its halves: after the n roots each key has four numbers, the halves first
abbrev pub key_at : ℕ → List ℕ → ℕ → ℕ
key_at n d i = get_or d (n + 4 * i + 1) 0 * 0x100000000 + get_or d (n + 4 * i) 0

-- the first k keys
abbrev pub keys_in : ℕ → List ℕ → ℕ → List ℕ
keys_in n d k = table k (key_at n d)
