-- Where the halves of a set stand in the work list.
use Rattle.std.specs.Prelude.{◌≡◌, List, ℕ, ◌+◌, ◌*◌, get_or}
use Rattle.std.proofs.Common.{ap, ap₂, ◌∙◌, arith, get_or-drop}
use Rattle.letter_sets.specs.SetNumbers.{set_at}

pub set_halves : (n : ℕ) (w : List ℕ) (i : ℕ) → set_at n w i ≡ get_or w (4 * n + 4 * i + 1) 0 * 0x100000000 + get_or w (4 * n + 4 * i) 0
set_halves n w i =
    let e : 3 * n + (n + 4 * i + 1) ≡ 4 * n + 4 * i + 1 = omega arith in
    let f : 3 * n + (n + 4 * i) ≡ 4 * n + 4 * i = omega arith in
    ap₂ (λ high low. high * 0x100000000 + low) (get_or-drop (3 * n) w (n + 4 * i + 1) 0 ∙ ap (λ p. get_or w p 0) e)
    (get_or-drop (3 * n) w (n + 4 * i) 0 ∙ ap (λ p. get_or w p 0) f)
