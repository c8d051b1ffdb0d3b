-- Reading a text line by line visits exactly its lines.
use Rattle.std.specs.Prelude.{◌≡◌, refl, not, min, take_while, nat_eq, true, false, List, [], ◌∷◌, eqb, ltb, get_or, take}
use Rattle.std.proofs.Common.{sym, ap₂, ◌∙◌, true≢false, suc-add, add-one, one-add, eqb-true, ltb-true, ltb-false, length-drop, drop-drop}
use Rattle.std.proofs.Math.Path.{ap}
use Rattle.std.specs.List.{starts_with}
use Rattle.std.proofs.lemmas.Bool.Decides.{nat_tests}
use Prim.Native.Nat.{ℕ, zero, suc, ◌+◌, ◌-◌, ◌≤◌, ◌<◌, zero-le}
use native.Mathlib.Omega.{arith}
use Rattle.std.proofs.Math.ListN.{length, drop, drop_of_length-le}
use Rattle.std.proofs.Math.Seq.{drop-cons}
use Rattle.laws.specs.Cases.{split, and_left}
use Rattle.text.specs.Lines.{is_ending, is_pair, on_first, lines_from, lines, first_line, ending_width, line_width}

-- ---- the end of a line
module _ (text : List ℕ) (i : ℕ) where
  pub line-here : i < length text → is_ending (get_or text i 0) ≡ true → first_line (drop i text) ≡ []
  unfolding first_line
  line-here h e = rw (drop-cons text i 0 h) (rw (e, first_line))

  pub line-next : i < length text → is_ending (get_or text i 0) ≡ false
      → first_line (drop i text) ≡ get_or text i 0 ∷ first_line (drop (i + 1) text)
  unfolding first_line
  line-next h e = rw (add-one, drop-cons text i 0 h) (rw (e, first_line))

  pub line-past : length text ≤ i → first_line (drop i text) ≡ []
  unfolding first_line
  line-past h = rw (drop_of_length-le text h)

-- it is all before the first ending
pub line-while : (s : List ℕ) → take_while (λ b. not (is_ending b)) s ≡ first_line s
unfolding first_line
line-while [] = refl
line-while (b ∷ s) = split (is_ending b) (λ e. rw (e, first_line)) (λ e. rw (e, first_line, one-add) (ap (b ∷◌) (line-while s)))

-- a line stands in the text
pub line-fits : (s : List ℕ) → length (first_line s) ≤ length s
unfolding first_line
line-fits [] = zero-le
line-fits (b ∷ s) = split (is_ending b) (λ e. rw (e, first_line) zero-le) (λ e. let h = line-fits s in rw (e, first_line) (omega arith))

pub line-inside : (text line : List ℕ) (p : ℕ) → p ≤ length text → line ≡ first_line (drop p text) → p + length line ≤ length text
line-inside text line p h e = omega (arith, ap length e, line-fits (drop p text), length-drop p text)

pub line-part : (s : List ℕ) → take (length (first_line s)) s ≡ first_line s
unfolding first_line
line-part [] = refl
line-part (b ∷ s) = split (is_ending b) (λ e. rw (e, first_line)) (λ e. rw (e, first_line) (ap (b ∷◌) (line-part s)))

-- ---- the ending
module _ (text : List ℕ) (i : ℕ) where
  pub ending_past : length text ≤ i → ending_width (drop i text) ≡ 0
  unfolding ending_width
  ending_past h = rw (drop_of_length-le text h)

  pub ending_last : i < length text → length text ≤ i + 1 → ending_width (drop i text) ≡ 1
  unfolding ending_width
  ending_last h k = let p : length text ≤ suc i = omega arith in rw (drop-cons text i 0 h, drop_of_length-le text p)

  ending_two : i + 1 < length text → drop i text ≡ get_or text i 0 ∷ get_or text (i + 1) 0 ∷ drop (suc (suc i)) text
  ending_two h = drop-cons text i 0 (omega arith) ∙ ap (get_or text i 0 ∷◌) (drop-cons text (suc i) 0 (omega arith) ∙ rw (add-one i))

  pub ending_pair : i + 1 < length text → is_pair (get_or text i 0) (get_or text (i + 1) 0) ≡ true → ending_width (drop i text) ≡ 2
  unfolding ending_width
  ending_pair h e = rw (ending_two h) (rw (e, ending_width))

  pub ending_one : i + 1 < length text → is_pair (get_or text i 0) (get_or text (i + 1) 0) ≡ false → ending_width (drop i text) ≡ 1
  unfolding ending_width
  ending_one h e = rw (ending_two h) (rw (e, ending_width))

starts-pair : (b c : ℕ) (s : List ℕ) → starts_with nat_eq (b ∷ c ∷ s) (0x0D ∷ 0x0A ∷ []) ≡ is_pair b c
starts-pair b c s = grind (arith, nat_tests)

pub width_pair : (s : List ℕ) → starts_with nat_eq s (0x0D ∷ 0x0A ∷ []) ≡ true → ending_width s ≡ 2
unfolding ending_width
width_pair [] e = absurd (true≢false (sym e))
width_pair (b ∷ []) e = grind (arith, nat_tests)
width_pair (b ∷ c ∷ s) e = rw (sym (starts-pair b c s) ∙ e, ending_width)

pub width_one : (s : List ℕ) → starts_with nat_eq s (0x0D ∷ 0x0A ∷ []) ≡ false → ending_width s ≡ min (length s) 1
unfolding ending_width
width_one [] e = refl
width_one (b ∷ []) e = refl
width_one (b ∷ c ∷ s) e = rw (sym (starts-pair b c s) ∙ e, ending_width) (omega arith)

pub ending_fits : (s : List ℕ) → ending_width s ≤ length s
unfolding ending_width
ending_fits [] = zero-le
ending_fits (b ∷ []) = omega arith
ending_fits (b ∷ c ∷ s) = split (is_pair b c) (λ e. rw (e, ending_width) (omega arith)) (λ e. rw (e, ending_width) (omega arith))

pub ending_pos : (b : ℕ) (s : List ℕ) → 1 ≤ ending_width (b ∷ s)
unfolding ending_width
ending_pos b [] = omega arith
ending_pos b (c ∷ s) = split (is_pair b c) (λ e. rw (e, ending_width) (omega arith)) (λ e. rw (e, ending_width) (omega arith))

pub width_fits : (s : List ℕ) → line_width s ≤ length s
unfolding line_width
width_fits s =
    let a = line-fits s in
    let b = ending_fits (drop (length (first_line s)) s) in
    let d = length-drop (length (first_line s)) s in
    omega arith

-- ---- the lines of a text are its first line and those of what follows
pair_ends : (b c : ℕ) → is_pair b c ≡ true → is_ending b ≡ true
pair_ends b c e = let t = and_left (eqb b 13) (eqb c 10) e in rw (eqb-true b 13 t)

module _ (b : ℕ) (s : List ℕ) where
  line-ends : is_ending b ≡ true → first_line (b ∷ s) ≡ []
  unfolding first_line
  line-ends e = rw (e, first_line)

  pub line-goes-on : is_ending b ≡ false → first_line (b ∷ s) ≡ b ∷ first_line s
  unfolding first_line
  line-goes-on e = rw (e, first_line)

  width-ends : is_ending b ≡ true → line_width (b ∷ s) ≡ ending_width (b ∷ s)
  unfolding line_width
  width-ends e = rw (line-ends e) (omega arith)

  width-goes-on : is_ending b ≡ false → line_width (b ∷ s) ≡ suc (line_width s)
  unfolding line_width
  width-goes-on e = rw (line-goes-on e) (suc-add (length (first_line s)) (ending_width (drop (length (first_line s)) s)))

not_pair : (b c : ℕ) → is_ending b ≡ false → is_pair b c ≡ false
not_pair b c e = split (is_pair b c) (λ p. absurd (true≢false (sym (pair_ends b c p) ∙ e))) (λ p. p)

pub lines-goes-on : (b : ℕ) (s : List ℕ) → is_ending b ≡ false → lines (b ∷ s) ≡ on_first b (lines s)
unfolding lines
lines-goes-on b [] e = ap (λ t. lines_from false t b [] []) e
lines-goes-on b (c ∷ s) e = ap₂ (λ p t. lines_from p t b (lines s) (lines (c ∷ s))) (not_pair b c e) e

pub lines-ends : (b : ℕ) (s : List ℕ) → is_ending b ≡ true → lines (b ∷ s) ≡ [] ∷ lines (drop (ending_width (b ∷ s)) (b ∷ s))
unfolding lines ending_width
lines-ends b [] e = ap (λ t. lines_from false t b [] []) e
lines-ends b (c ∷ s) e =
    split (is_pair b c)
    (λ p. ap₂ (λ p t. lines_from p t b (lines s) (lines (c ∷ s))) p e ∙ rw (p, ending_width))
    (λ p. ap₂ (λ p t. lines_from p t b (lines s) (lines (c ∷ s))) p e ∙ rw (p, ending_width))

none_after : (b : ℕ) → on_first b (lines []) ≡ (b ∷ first_line []) ∷ lines (drop (line_width []) [])
unfolding lines first_line line_width ending_width
none_after b = refl

-- the first line, then the lines of the text after its ending
pub lines-first : (b : ℕ) (s : List ℕ) → lines (b ∷ s) ≡ first_line (b ∷ s) ∷ lines (drop (line_width (b ∷ s)) (b ∷ s))
lines-first b [] =
    split (is_ending b)
    (λ e. rw (line-ends b [] e, width-ends b [] e) (lines-ends b [] e))
    (λ e. rw (line-goes-on b [] e, width-goes-on b [] e) (lines-goes-on b [] e ∙ none_after b))
lines-first b (c ∷ s) =
    split (is_ending b)
    (λ e. rw (line-ends b (c ∷ s) e, width-ends b (c ∷ s) e) (lines-ends b (c ∷ s) e))
    (λ e. rw (line-goes-on b (c ∷ s) e, width-goes-on b (c ∷ s) e) (lines-goes-on b (c ∷ s) e ∙ ap (on_first b) (lines-first c s)))

-- a text that is not at its end has a line that takes some of it
pub width_pos : (b : ℕ) (s : List ℕ) → 1 ≤ line_width (b ∷ s)
width_pos b s =
    split (is_ending b)
    (λ e. rw (width-ends b s e) (ending_pos b s))
    (λ e. rw (width-goes-on b s e) (omega arith))

-- ---- at a place of a text
module _ (text : List ℕ) (at : ℕ) where
  pub lines_at : at < length text → lines (drop at text) ≡ first_line (drop at text) ∷ lines (drop (at + line_width (drop at text)) text)
  lines_at h =
      rw (← drop-drop (line_width (drop at text)) at text) (rw (drop-cons text at 0 h) (lines-first (get_or text at 0) (drop (suc at) text)))

  pub lines-past : length text ≤ at → lines (drop at text) ≡ []
  unfolding lines
  lines-past h = rw (drop_of_length-le text h)

  pub width-moves : at < length text → 1 ≤ line_width (drop at text)
  width-moves h = rw (drop-cons text at 0 h) (width_pos (get_or text at 0) (drop (suc at) text))

  pub after-fits : at ≤ length text → at + line_width (drop at text) ≤ length text
  after-fits h = let w = width_fits (drop at text) in let d = length-drop at text in omega arith

-- ---- the lines of a text are those that reading from place 0 on visits, each the part that `first_line` gives at the place after the one before
pub data Visits (text : List ℕ) : ℕ → List (List ℕ) → Type 0 where
  done : {at : ℕ} → length text ≤ at → Visits text at []
  visit : {at : ℕ} {ls : List (List ℕ)} → at < length text → Visits text (at + line_width (drop at text)) ls
      → Visits text at (first_line (drop at text) ∷ ls)

Visits-from : (n : ℕ) (text : List ℕ) (at : ℕ) → length text - at ≤ n → Visits text at (lines (drop at text))
Visits-from zero text at h = let p : length text ≤ at = omega arith in rw (lines-past text at p) (done p)
Visits-from (suc n) text at h =
    split (ltb at (length text))
    (λ t. let l = ltb-true at (length text) t in let m = width-moves text at l in
    rw (lines_at text at l) (visit l (Visits-from n text (at + line_width (drop at text)) (omega arith))))
    (λ t. let l = ltb-false at (length text) t in rw (lines-past text at l) (done l))

pub Visits-lines : (text : List ℕ) → Visits text 0 (lines text)
Visits-lines text = Visits-from (length text) text 0 (omega arith)

pub Visits-only : (text : List ℕ) (at : ℕ) (ls : List (List ℕ)) → Visits text at ls → ls ≡ lines (drop at text)
Visits-only text at ls (done h) = sym (lines-past text at h)
Visits-only text at ls (visit {ls = rest} h v) =
    ap (first_line (drop at text) ∷◌) (Visits-only text (at + line_width (drop at text)) rest v) ∙ sym (lines_at text at h)

-- ---- the line and the ending that a text begins with, by how many bytes they have
module _ (s : List ℕ) (end width : ℕ) (e : end ≡ length (take_while (λ b. not (is_ending b)) s)) where
  pub line-before : take end s ≡ first_line s
  line-before = rw (e ∙ ap length (line-while s)) (line-part s)

  pub line-after : width ≡ ending_width (drop end s) → end + width ≡ line_width s
  unfolding line_width
  line-after w = let i : end ≡ length (first_line s) = e ∙ ap length (line-while s) in
      rw (← i) (ap (λ n. end + n) w)

-- ---- a line and what follows it, by the place where it ends
module _ (text : List ℕ) (at end : ℕ) (e : end ≡ at + length (first_line (drop at text))) where
  pub after_line : (after : ℕ) → after ≡ end + ending_width (drop end text) → after ≡ at + line_width (drop at text)
  unfolding line_width
  after_line after w =
      let d = ap ending_width (drop-drop (length (first_line (drop at text))) at text ∙ ap (λ k. drop k text) (sym e)) in
      omega arith

  pub line-between : take (end - at) (drop at text) ≡ first_line (drop at text)
  line-between = let d : end - at ≡ length (first_line (drop at text)) = omega arith in rw d (line-part (drop at text))

  pub end_fits : at ≤ length text → end ≤ length text
  end_fits h = let l = line-fits (drop at text) in let d = length-drop at text in omega arith
