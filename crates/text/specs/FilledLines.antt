-- The lines of a text that are not empty, from its front on; and a text cut at a line's end, whose lines are those of its parts.
use Rattle.std.specs.Prelude.{◌≡◌, refl, Bool, true, ◌||◌, ℕ, eqb, drop}
use Rattle.std.proofs.Common.{sym, ◌∙◌, eqb-true}
use Rattle.std.proofs.Math.Path.{ap, ap₂}
use Rattle.std.proofs.Math.Bool.{false}
use mathlib.Core.List.{List, [], ◌∷◌, ◌++◌, append-nil}
use Rattle.laws.specs.Cases.{split, and_right}
use Rattle.laws.specs.Lists.{filtered}
use Rattle.text.specs.Lines.{is_ending, is_pair, on_first, lines_from, lines, first_line, line_width}
use Rattle.text.specs.LineLaws.{lines-first, line-goes-on, lines-goes-on, lines-ends}

abbrev pub is_filled : List ℕ → Bool
is_filled [] = false
is_filled (b ∷ l) = true

abbrev pub filled_lines : List ℕ → List (List ℕ)
filled_lines s = filtered is_filled (lines s)

-- ---- a text with a byte more at its front
none_filled : filled_lines [] ≡ []
unfolding lines
none_filled = refl

second-ends : (b c : ℕ) → is_pair b c ≡ true → is_ending c ≡ true
second-ends b c p = rw (eqb-true c 0x0A (and_right (eqb b 0x0D) (eqb c 0x0A) p))

lone_ending : (b : ℕ) → is_ending b ≡ true → filled_lines (b ∷ []) ≡ []
unfolding lines
lone_ending b e = ap (λ t. filtered is_filled (lines_from false t b [] [])) e

ending_first : (b c : ℕ) (s : List ℕ) → is_ending b ≡ true → is_pair b c ≡ false → filled_lines (b ∷ c ∷ s) ≡ filled_lines (c ∷ s)
unfolding lines
ending_first b c s e p = ap₂ (λ t u. filtered is_filled (lines_from t u b (lines s) (lines (c ∷ s)))) p e

pair_first : (b c : ℕ) (s : List ℕ) → is_pair b c ≡ true → filled_lines (b ∷ c ∷ s) ≡ filled_lines s
unfolding lines
pair_first b c s p = ap (λ t. filtered is_filled (lines_from t (is_ending b) b (lines s) (lines (c ∷ s)))) p

-- an ending at the front makes no line that is not empty
pub ending_passed : (b : ℕ) (s : List ℕ) → is_ending b ≡ true → filled_lines (b ∷ s) ≡ filled_lines s
ending_passed b [] e = lone_ending b e ∙ sym none_filled
ending_passed b (c ∷ s) e =
    split (is_pair b c)
    (λ p. pair_first b c s p ∙ sym (ending_passed c s (second-ends b c p)))
    (λ p. ending_first b c s e p)

module _ (b : ℕ) (e : is_ending b ≡ false) where
  -- any other byte is a line of its own before nothing or an ending, and else the first of the line that follows
  pub byte_last : filled_lines (b ∷ []) ≡ (b ∷ []) ∷ []
  unfolding lines
  byte_last = ap (λ t. filtered is_filled (lines_from false t b [] [])) e

  pub byte-alone : (c : ℕ) (s : List ℕ) → is_ending c ≡ true → filled_lines (b ∷ c ∷ s) ≡ (b ∷ []) ∷ filled_lines (c ∷ s)
  byte-alone c s f = ap (filtered is_filled) (lines-goes-on b (c ∷ s) e) ∙ rw (lines-ends c s f)

  pub byte-first : (c : ℕ) (s : List ℕ) → is_ending c ≡ false → filled_lines (b ∷ c ∷ s) ≡ on_first b (filled_lines (c ∷ s))
  byte-first c s f = ap (filtered is_filled) (lines-goes-on b (c ∷ s) e) ∙ rw (lines-first c s, line-goes-on c s f)

  -- the first line from there, and then those after its ending
  pub line_first : (s : List ℕ) → filled_lines (b ∷ s) ≡ first_line (b ∷ s) ∷ filled_lines (drop (line_width (b ∷ s)) (b ∷ s))
  line_first s = ap (filtered is_filled) (lines-first b s) ∙ rw (line-goes-on b s e)

-- ---- a text cut in two
-- no line is open at a text's end
abbrev pub closed_after : List ℕ → Bool
closed_after [] = true
closed_after (b ∷ []) = is_ending b
closed_after (b ∷ c ∷ s) = closed_after (c ∷ s)

-- a line that is open before a text ends at its front
abbrev pub closed_before : List ℕ → Bool
closed_before [] = true
closed_before (b ∷ s) = is_ending b

-- whether the cut parts the two bytes of one ending
abbrev pub parts_pair : List ℕ → List ℕ → Bool
parts_pair [] t = false
parts_pair (b ∷ []) [] = false
parts_pair (b ∷ []) (c ∷ t) = is_pair b c
parts_pair (b ∷ c ∷ s) t = parts_pair (c ∷ s) t

-- cut at a line's end: at either end of an ending, or between its two bytes
pub filled-cut : (s t : List ℕ) → closed_after s || closed_before t ≡ true → filled_lines (s ++ t) ≡ filled_lines s ++ filled_lines t
filled-cut [] t h = rw none_filled
filled-cut (b ∷ []) [] h = rw (none_filled, append-nil (filled_lines (b ∷ [])))
filled-cut (b ∷ []) (c ∷ t) h =
    split (is_ending b)
    (λ e. ending_passed b (c ∷ t) e ∙ rw (lone_ending b e))
    (λ e. let f : is_ending c ≡ true = rw e at h in byte-alone b e c t f ∙ rw (byte_last b e))
filled-cut (b ∷ c ∷ s) t h =
    let cut = filled-cut (c ∷ s) t h in
    split (is_ending b)
    (λ e. ending_passed b (c ∷ s ++ t) e ∙ cut ∙ ap (◌++ filled_lines t) (sym (ending_passed b (c ∷ s) e)))
    (λ e. split (is_ending c)
    (λ f. byte-alone b e c (s ++ t) f ∙ ap ((b ∷ []) ∷◌) cut ∙ ap (◌++ filled_lines t) (sym (byte-alone b e c s f)))
    (λ f. byte-first b e c (s ++ t) f ∙ ap (on_first b) (cut ∙ ap (◌++ filled_lines t) (line_first c f s))
    ∙ ap (λ (ls : List (List ℕ)). on_first b ls ++ filled_lines t) (sym (line_first c f s)) ∙ ap (◌++ filled_lines t) (sym (byte-first b e c s f))))

-- all lines, the empty ones too, where the cut is after the whole ending
module _ (b c : ℕ) (s : List ℕ) where
  lines_pair : is_pair b c ≡ true → lines (b ∷ c ∷ s) ≡ [] ∷ lines s
  unfolding lines
  lines_pair p = ap (λ t. lines_from t (is_ending b) b (lines s) (lines (c ∷ s))) p

  lines_ending : is_pair b c ≡ false → is_ending b ≡ true → lines (b ∷ c ∷ s) ≡ [] ∷ lines (c ∷ s)
  unfolding lines
  lines_ending p e = ap₂ (λ t u. lines_from t u b (lines s) (lines (c ∷ s))) p e

no_lines : lines [] ≡ []
unfolding lines
no_lines = refl

lone_line : (b : ℕ) → is_ending b ≡ true → lines (b ∷ []) ≡ [] ∷ []
unfolding lines
lone_line b e = ap (λ t. lines_from false t b [] []) e

closed-rest : (c : ℕ) (s : List ℕ) → closed_after (c ∷ s) ≡ true → closed_after s ≡ true
closed-rest c [] h = refl
closed-rest c (d ∷ s) h = h

parts-rest : (c : ℕ) (s t : List ℕ) → parts_pair (c ∷ s) t ≡ false → parts_pair s t ≡ false
parts-rest c [] t h = refl
parts-rest c (d ∷ s) t h = h

pub lines_cut : (s t : List ℕ) → closed_after s ≡ true → parts_pair s t ≡ false → lines (s ++ t) ≡ lines s ++ lines t
lines_cut [] t h k = rw no_lines
lines_cut (b ∷ []) [] h k = rw (no_lines, append-nil (lines (b ∷ [])))
lines_cut (b ∷ []) (c ∷ t) h k = lines_ending b c t k h ∙ rw (lone_line b h)
lines_cut (b ∷ c ∷ s) t h k =
    let cut = lines_cut (c ∷ s) t h k in
    split (is_pair b c)
    (λ p. lines_pair b c (s ++ t) p ∙ ap ([] ∷◌) (lines_cut s t (closed-rest c s h) (parts-rest c s t k))
    ∙ ap (◌++ lines t) (sym (lines_pair b c s p)))
    (λ p. split (is_ending b)
    (λ e. lines_ending b c (s ++ t) p e ∙ ap ([] ∷◌) cut ∙ ap (◌++ lines t) (sym (lines_ending b c s p e)))
    (λ e. lines-goes-on b (c ∷ s ++ t) e ∙ ap (on_first b) (cut ∙ ap (◌++ lines t) (lines-first c s))
    ∙ ap (λ (ls : List (List ℕ)). on_first b ls ++ lines t) (sym (lines-first c s)) ∙ ap (◌++ lines t) (sym (lines-goes-on b (c ∷ s) e))))
