-- The table read both ways: a byte is that of a code point just where the code point is that of the byte. The idea: a test that is computed
-- once, over the whole table, says that no code point stands in it twice, or is its own byte as well.
use Rattle.std.specs.Prelude.{◌≡◌, refl, Bool, true, false, not, ◌&&◌, ◌||◌, ℕ, ◌+◌, ◌-◌, ◌^◌, ◌<◌, ◌≤◌, eqb, ltb, leb, length, get_or}
use Rattle.std.proofs.Common.{sym, ◌∙◌, subst, true≢false, ⊎_elim, arith}
use Rattle.std.proofs.Math.Path.{ap}
use mathlib.Core.List.{Memᴰ}
use Rattle.std.proofs.Math.Option.{none, some, some-injective}
use Rattle.std.proofs.Math.ListN.{get_or-eq_default}
use borrow.Author.Tests.{ltb-true, ltb-false, leb-true, eqb-true, eqb-false, ne_eqb, not-true, not-false}
use Rattle.laws.specs.Cases.{split, split_option, below?, some≢none, or_false-left, and_left, and_right}
use Rattle.laws.specs.Firsts.{place_in, place_lt, place_at}
use Rattle.laws.specs.Lists.{member, some_of}
use Rattle.laws.specs.Members.{none_of, member_mem, mem_member, at_in}
use Rattle.laws.specs.Tables.{table, table_in}
use Rattle.windows1252.specs.Windows1252.{entries, StandsAt, is_itself, unless_zero, code_point_of, byte_of_entry, byte_of, no_byte, byte_written}

-- ---- the bytes of the table, computed over all of them, and those that are their own code points
in_table : (i : ℕ) → i < 32 → is_itself (0x80 + i) ≡ false
unfolding table
in_table i h = none_of (λ j. is_itself (0x80 + j)) (table 32 (λ j. j)) refl i (table_in 32 (λ j. j) i h)

pub itself-below : (n : ℕ) → is_itself n ≡ true → n < 2 ^ 8
itself-below n e =
    split (ltb n 0x80)
    (λ t. let h = ltb-true n 0x80 t in omega arith)
    (λ t. let h = leb-true n 0xFF (and_right (leb 0xA0 n) (leb n 0xFF) (rw t at e)) in omega arith)

pub from_80 : (n : ℕ) → is_itself n ≡ false → 0x80 ≤ n
from_80 n e = ltb-false n 0x80 (or_false-left (ltb n 0x80) (leb 0xA0 n && leb n 0xFF) e)

entries_32 : length entries ≡ 32
unfolding entries
entries_32 = refl

pub itself-byte : (c : ℕ) → is_itself c ≡ true → byte_of c ≡ some c
unfolding byte_of
itself-byte c e = rw (e, byte_of)

-- ---- a rule of the table, computed over all of it, at each entry with a code point
abbrev pub Rule : Type 0
Rule = ℕ → ℕ → Bool

abbrev pub breaks : Rule → ℕ → Bool
breaks rule i = not (eqb (get_or entries i 0) 0 || rule i (get_or entries i 0))

pub Rule-at : (rule : Rule) → some_of (breaks rule) (table 32 (λ i. i)) ≡ false → (i c : ℕ) → StandsAt i c → rule i c ≡ true
Rule-at rule computed i c s =
    let holds : eqb (get_or entries i 0) 0 || rule i (get_or entries i 0) ≡ true =
    not-false _ (none_of (breaks rule) (table 32 (λ j. j)) computed i (table_in 32 (λ j. j) i s.below)) in
    rw (s.is, ne_eqb c 0 s.character) at holds

-- a code point stands in the table once, and is not its own byte
abbrev only_here : Rule
only_here i c = not (is_itself c) && eqb (place_in entries c) i

each-once : some_of (breaks only_here) (table 32 (λ i. i)) ≡ false
unfolding table entries
each-once = refl

-- ---- a code point that stands in the table, and its byte
module _ (i c : ℕ) (s : StandsAt i c) where
  pub entry-byte : byte_of c ≡ some (0x80 + i)
  unfolding byte_of
  entry-byte =
      let only = Rule-at only_here each-once i c s in
      let other = not-true (is_itself c) (and_left (not (is_itself c)) (eqb (place_in entries c) i) only) in
      let place = eqb-true (place_in entries c) i (and_right (not (is_itself c)) (eqb (place_in entries c) i) only) in
      let there = mem_member c entries (subst (λ x. Memᴰ x entries) s.is (at_in entries i 0 (rw entries_32 s.below))) in
      rw (other, byte_of) (rw (there, byte_of_entry) (ap (λ j. some (0x80 + j)) place))

  entry_code_point : code_point_of (0x80 + i) ≡ some c
  unfolding code_point_of
  entry_code_point =
      rw (in_table i s.below, code_point_of)
      (ap (λ j. unless_zero (get_or entries j 0)) (omega arith) ∙ ap unless_zero s.is ∙ rw (ne_eqb c 0 s.character, unless_zero))

-- the code point of an entry stands there
entry-stands : (i c : ℕ) → unless_zero (get_or entries i 0) ≡ some c → StandsAt i c
entry-stands i c e =
    split (eqb (get_or entries i 0) 0)
    (λ t. some≢none (sym (rw (t, unless_zero) at e)))
    (λ t. let n = eqb-false (get_or entries i 0) 0 t in
    let is : get_or entries i 0 ≡ c = some-injective _ _ (rw (t, unless_zero) at e) in
    ⊎_elim
    (λ h. record { below = h; is = is; character = λ o. n (is ∙ o) })
    (λ h. absurd (n (get_or-eq_default entries 0 (rw entries_32 h))))
    (below? i 32))

-- a code point that is not its own byte stands in the table, or has no byte
pub stands_or_none : (c : ℕ) {C : Type 0} → is_itself c ≡ false → ((i : ℕ) → StandsAt i c → C) → (byte_of c ≡ none → C) → C
unfolding byte_of
stands_or_none c other stands lacks =
    split (member c entries)
    (λ m. let there = member_mem c entries m in
    let h = place_lt entries c there in
    let k = entries_32 in
    let l = from_80 c other in
    stands (place_in entries c) (record { below = omega arith; is = place_at entries c there; character = λ o. omega arith }))
    (λ m. lacks (rw (other, byte_of) (rw (m, byte_of_entry))))

-- ---- the law of the table
byte-back : (b c : ℕ) → code_point_of b ≡ some c → byte_of c ≡ some b
unfolding code_point_of
byte-back b c e =
    split (is_itself b)
    (λ t. let i : b ≡ c = some-injective _ _ (rw (t, code_point_of) at e) in subst (λ x. byte_of x ≡ some b) i (itself-byte b t))
    (λ t. let l = from_80 b t in entry-byte (b - 0x80) c (entry-stands (b - 0x80) c (rw (t, code_point_of) at e)) ∙ ap some (omega arith))

code_point_back : (b c : ℕ) → byte_of c ≡ some b → code_point_of b ≡ some c
unfolding code_point_of
code_point_back b c e =
    split (is_itself c)
    (λ t. let i : c ≡ b = some-injective _ _ (sym (itself-byte c t) ∙ e) in subst (λ x. code_point_of x ≡ some c) i (rw (t, code_point_of)))
    (λ t. stands_or_none c t
    (λ i s. subst (λ x. code_point_of x ≡ some c) (some-injective _ _ (sym (entry-byte i c s) ∙ e)) (entry_code_point i c s))
    (λ o. some≢none (sym e ∙ o)))

pub both_ways : (b c : ℕ) → (code_point_of b ≡ some c → byte_of c ≡ some b) × (byte_of c ≡ some b → code_point_of b ≡ some c)
both_ways b c = (byte-back b c, code_point_back b c)

-- ---- the byte written
has-8-bits : (b c : ℕ) → code_point_of b ≡ some c → b < 2 ^ 8
unfolding code_point_of
has-8-bits b c e =
    split (is_itself b)
    (λ t. itself-below b t)
    (λ t. let h = (entry-stands (b - 0x80) c (rw (t, code_point_of) at e)).below in omega arith)

pub byte-below : (c : ℕ) → byte_written c < 2 ^ 8
byte-below c =
    split_option (byte_of c)
    (λ n. rw n (omega arith))
    (λ b i. rw i (has-8-bits b c ((both_ways b c).1 i)))

-- a code point that has a byte is read back from it
pub reads-back : (c : ℕ) → no_byte c ≡ false → code_point_of (byte_written c) ≡ some c
reads-back c e =
    split_option (byte_of c)
    (λ n. absurd (true≢false (rw n at e)))
    (λ b i. rw i ((both_ways b c).1 i))
