-- The tile that a text begins with: by what its first bytes are, and by the decimal digits that write it (`leading-written`, `written-leads`).
use Rattle.std.specs.Prelude.{◌≡◌, refl, cond, None, Some, true, false, ◌&&◌, not, ◌≢◌, ℕ, ◌+◌, ◌-◌, ◌*◌, ◌/◌, ◌%◌, ◌≤◌, ◌<◌, eqb, leb, ltb, length, get_or, drop}
use Rattle.std.proofs.Common.{sym, ap, ◌∙◌, subst, add-one, le-leb, leb-true, ne_eqb, ltb-true, ltb-false, drop_of_length-le, drop-drop}
use mathlib.Core.List.{List, [], ◌∷◌, ◌++◌}
use Rattle.std.proofs.Math.Option.{none, some}
use native.Mathlib.Omega.{arith}
use Rattle.std.proofs.lemmas.Option.{none-some, same_Some}
use Rattle.std.proofs.lemmas.Bool.{lt-leb, eqb-false, not-true}
use Rattle.std.proofs.Math.Seq.{drop-cons}
use Rattle.laws.specs.Cases.{split, some≢none, and_left, and_right}
use Rattle.decimal.specs.Decimal.{decimal}
use Rattle.decimal.specs.DecimalLaws.{decimal-one, decimal-more}
use Rattle.text.specs.Tiles.{is_digit, first_digit, tile_within, tile_after, leading_tile}

-- ---- "1 to 63"
pub within-tile : (t w : ℕ) → 1 ≤ t → t ≤ 63 → tile_within t w ≡ some (t, w)
within-tile t w h k = rw (le-leb 1 t h, le-leb t 63 k, tile_within)

pub within_none : (t w : ℕ) → 63 < t → tile_within t w ≡ none
within_none t w k = rw (le-leb 1 t (omega arith), lt-leb t 63 k, tile_within)

within-is : (d w t n : ℕ) → tile_within d w ≡ some (t, n) → (1 ≤ d) × (d ≤ 63) × (d ≡ t) × (w ≡ n)
within-is d w t n e =
    split (leb 1 d && leb d 63)
    (λ y.
    let some_is : some (d, w) ≡ some (t, n) = rw (y, tile_within) at e in
    let is : (d, w) ≡ (t, n) = cc in
    let low = leb-true 1 d (and_left (leb 1 d) (leb d 63) y) in
    let high = leb-true d 63 (and_right (leb 1 d) (leb d 63) y) in
    (low, high, ap (λ (p : ℕ × ℕ). p.0) is, ap (λ (p : ℕ × ℕ). p.1) is))
    (λ y. some≢none (sym (rw (y, tile_within) at e)))

-- ---- digits
pub digit_low : (b : ℕ) → is_digit b ≡ true → 0x30 ≤ b
digit_low b e = leb-true 0x30 b (and_left (leb 0x30 b) (leb b 0x39) e)

pub digit-high : (b : ℕ) → is_digit b ≡ true → b ≤ 0x39
digit-high b e = leb-true b 0x39 (and_right (leb 0x30 b) (leb b 0x39) e)

-- ---- the tile after a first digit, and the tile, at a place of a text
module _ (text : List ℕ) (d i : ℕ) where
  pub after-end : length text ≤ i → tile_after d (drop i text) ≡ tile_within d 1
  unfolding tile_after
  after-end h = rw (drop_of_length-le text h)

  pub after-digit : i < length text → is_digit (get_or text i 0) ≡ true
      → tile_after d (drop i text) ≡ tile_within (d * 10 + (get_or text i 0 - 0x30)) 2
  unfolding tile_after
  after-digit h e = rw (drop-cons text i 0 h) (rw (e, tile_after))

  pub after-other : i < length text → is_digit (get_or text i 0) ≡ false → tile_after d (drop i text) ≡ tile_within d 1
  unfolding tile_after
  after-other h e = rw (drop-cons text i 0 h) (rw (e, tile_after))

module _ (text : List ℕ) (i : ℕ) where
  pub tile-end : length text ≤ i → leading_tile (drop i text) ≡ none
  unfolding leading_tile
  tile-end h = rw (drop_of_length-le text h)

  pub tile-zero : i < length text → get_or text i 0 ≡ 0x30 → leading_tile (drop i text) ≡ none
  unfolding leading_tile
  tile-zero h e = rw (drop-cons text i 0 h) (rw (e, leading_tile))

  pub tile-other : i < length text → is_digit (get_or text i 0) ≡ false → leading_tile (drop i text) ≡ none
  unfolding leading_tile
  tile-other h e = rw (drop-cons text i 0 h) (rw (e, leading_tile))

  pub tile-digit : i < length text → is_digit (get_or text i 0) ≡ true → get_or text i 0 ≢ 0x30
      → leading_tile (drop i text) ≡ tile_after (get_or text i 0 - 0x30) (drop (i + 1) text)
  unfolding leading_tile
  tile-digit h e n = rw (add-one, drop-cons text i 0 h) (rw (e, leading_tile) (rw (ne_eqb (get_or text i 0) 0x30 n)))

-- ---- the tile that a text begins with, by the digits that it begins with
pub digit-here : (text : List ℕ) (i : ℕ) → i < length text
    → first_digit (drop i text) ≡ cond (is_digit (get_or text i 0)) (Some (get_or text i 0 - 0x30)) None
unfolding first_digit
digit-here text i h = rw (drop-cons text i 0 h)

pub digit-past : (text : List ℕ) (i : ℕ) → length text ≤ i → first_digit (drop i text) ≡ None
unfolding first_digit
digit-past text i h = rw (drop_of_length-le text h)

after-second : (d : ℕ) (s : List ℕ) → tile_after d s ≡ elim (first_digit s) [ None ↦ tile_within d 1 | Some e ↦ tile_within (d * 10 + e) 2 ]
unfolding tile_after first_digit
after-second d [] = refl
after-second d (b ∷ s) = split (is_digit b) (λ y. rw (y, tile_after, cond)) (λ y. rw (y, tile_after, cond))

pub digit-none : (s : List ℕ) → first_digit s ≡ None → leading_tile s ≡ none
unfolding leading_tile first_digit
digit-none [] e = refl
digit-none (b ∷ s) e =
    split (is_digit b)
    (λ y. absurd (none-some (b - 0x30) (sym (rw (y, cond) at e))))
    (λ y. rw (y, leading_tile))

pub digit-zero : (s : List ℕ) → first_digit s ≡ Some 0 → leading_tile s ≡ none
unfolding leading_tile first_digit
digit-zero [] e = refl
digit-zero (b ∷ s) e =
    split (is_digit b)
    (λ y.
    let z = same_Some (b - 0x30) 0 (rw (y, cond) at e) in
    let low = digit_low b y in
    let is : b ≡ 0x30 = omega arith in
    rw (is, leading_tile))
    (λ y. rw (y, leading_tile))

-- the first is not 0
pub digit-first : (s : List ℕ) (d : ℕ) → first_digit s ≡ Some d → 0 < d → leading_tile s ≡ tile_after d (drop 1 s)
unfolding leading_tile first_digit
digit-first [] d e h = absurd (none-some d e)
digit-first (b ∷ s) d e h =
    split (is_digit b)
    (λ y.
    let i = same_Some (b - 0x30) d (rw (y, cond) at e) in
    let other = ne_eqb b 0x30 (λ z. absurd (omega arith)) in
    rw (y, other, i, leading_tile))
    (λ y. absurd (none-some d (rw (y, cond) at e)))

-- and the second is there, or not
module _ (text : List ℕ) (at d : ℕ) (e : first_digit (drop at text) ≡ Some d) (h : 0 < d) where
  pub digit-alone : d ≤ 9 → first_digit (drop (at + 1) text) ≡ None → leading_tile (drop at text) ≡ some (d, 1)
  digit-alone k f =
      digit-first (drop at text) d e h ∙ ap (tile_after d) (drop-drop 1 at text)
      ∙ after-second d (drop (at + 1) text) ∙ rw f (within-tile d 1 h (omega arith))

  pub digit-pair : (f : ℕ) → first_digit (drop (at + 1) text) ≡ Some f → leading_tile (drop at text) ≡ tile_within (d * 10 + f) 2
  digit-pair f g =
      digit-first (drop at text) d e h ∙ ap (tile_after d) (drop-drop 1 at text) ∙ after-second d (drop (at + 1) text) ∙ rw g

-- ---- "decimal, no leading zero": the tile that a text begins with is the one that its first digits write
pub record WrittenTile (s : List ℕ) (t n : ℕ) : Type 0 where
  pub low : 1 ≤ t
  pub high : t ≤ 63
  pub digits : n ≡ length (decimal t)
  pub begins : s ≡ decimal t ++ drop n s

module _ (d : ℕ) (h : 1 ≤ d) (k : d ≤ 9) where
  -- a first digit and a second one
  decimal-two : (e : ℕ) → e ≤ 9 → decimal (d * 10 + e) ≡ (0x30 + d) ∷ (0x30 + e) ∷ []
  decimal-two e m =
      let tens : (d * 10 + e) / 10 ≡ d = omega arith in
      let ones : (d * 10 + e) % 10 ≡ e = omega arith in
      decimal-more (d * 10 + e) (omega arith) ∙ rw (tens, ones) (ap (◌++ (0x30 + e) ∷ []) (decimal-one d (omega arith)))

  one_written : (s : List ℕ) → WrittenTile ((0x30 + d) ∷ s) d 1
  one_written s = let e = decimal-one d (omega arith) in
      record { low = h; high = omega arith; digits = sym (ap length e); begins = sym (ap (◌++ s) e) }

  two-written : (s : List ℕ) (e : ℕ) → e ≤ 9 → d * 10 + e ≤ 63 → WrittenTile ((0x30 + d) ∷ (0x30 + e) ∷ s) (d * 10 + e) 2
  two-written s e m u = let w = decimal-two e m in
      record { low = omega arith; high = u; digits = sym (ap length w); begins = sym (ap (◌++ s) w) }

  after-written : (s : List ℕ) (t n : ℕ) → tile_after d s ≡ some (t, n) → WrittenTile ((0x30 + d) ∷ s) t n
  unfolding tile_after
  after-written [] t n e = let w = within-is d 1 t n e in rw (← w.2, ← w.3) (one_written [])
  after-written (b ∷ s) t n e =
      split (is_digit b)
      (λ y.
      let w = within-is (d * 10 + (b - 0x30)) 2 t n (rw (y, tile_after) at e) in
      let low = digit_low b y in
      let high = digit-high b y in
      let i : b ≡ 0x30 + (b - 0x30) = omega arith in
      rw (← w.2, ← w.3)
      (subst (λ z. WrittenTile ((0x30 + d) ∷ z ∷ s) (d * 10 + (b - 0x30)) 2) (sym i) (two-written s (b - 0x30) (omega arith) w.1)))
      (λ y. let w = within-is d 1 t n (rw (y, tile_after) at e) in rw (← w.2, ← w.3) (one_written (b ∷ s)))

pub leading_written : (s : List ℕ) (t n : ℕ) → leading_tile s ≡ some (t, n) → WrittenTile s t n
unfolding leading_tile
leading_written [] t n e = some≢none (sym e)
leading_written (b ∷ s) t n e =
    split (is_digit b && not (eqb b 0x30))
    (λ y.
    let digit = and_left (is_digit b) (not (eqb b 0x30)) y in
    let low = digit_low b digit in
    let high = digit-high b digit in
    let other = eqb-false b 0x30 (not-true (eqb b 0x30) (and_right (is_digit b) (not (eqb b 0x30)) y)) in
    let i : b ≡ 0x30 + (b - 0x30) = omega arith in
    subst (λ z. WrittenTile (z ∷ s) t n) (sym i)
    (after-written (b - 0x30) (omega arith) (omega arith) s t n (rw (y, leading_tile) at e)))
    (λ y. some≢none (sym (rw (y, leading_tile) at e)))

-- ---- the converse: a tile's digits, where nothing follows them or a byte that is no digit, are read as that tile
abbrev pub NoDigitNext : List ℕ → Type 0
NoDigitNext [] = Unit
NoDigitNext (b ∷ s) = is_digit b ≡ false

digit-byte : (d : ℕ) → d ≤ 9 → is_digit (0x30 + d) ≡ true
digit-byte d h = rw (le-leb 0x30 (0x30 + d) (omega arith), le-leb (0x30 + d) 0x39 (omega arith))

leads-digit : (d : ℕ) (s : List ℕ) → 1 ≤ d → d ≤ 9 → leading_tile ((0x30 + d) ∷ s) ≡ tile_after d s
unfolding leading_tile
leads-digit d s h k =
    let i : 0x30 + d - 0x30 ≡ d = omega arith in
    rw (digit-byte d k, ne_eqb (0x30 + d) 0x30 (λ e. absurd (omega arith)), i, leading_tile)

then-digit : (d e : ℕ) (s : List ℕ) → e ≤ 9 → tile_after d ((0x30 + e) ∷ s) ≡ tile_within (d * 10 + e) 2
unfolding tile_after
then-digit d e s h = let i : 0x30 + e - 0x30 ≡ e = omega arith in rw (digit-byte e h, i, tile_after)

then-none : (d : ℕ) (s : List ℕ) → NoDigitNext s → tile_after d s ≡ tile_within d 1
unfolding tile_after
then-none d [] e = refl
then-none d (b ∷ s) e = rw (e, tile_after)

pub written-leads : (t : ℕ) (s : List ℕ) → 1 ≤ t → t ≤ 63 → NoDigitNext s → leading_tile (decimal t ++ s) ≡ some (t, length (decimal t))
written-leads t s h k none-next =
    split (ltb t 10)
    (λ y.
    let l = ltb-true t 10 y in
    rw (decimal-one t l) (leads-digit t s h (omega arith) ∙ then-none t s none-next ∙ within-tile t 1 h k))
    (λ y.
    let l = ltb-false t 10 y in
    let e : t / 10 * 10 + t % 10 ≡ t = omega arith in
    let w = ap decimal (sym e) ∙ decimal-two (t / 10) (omega arith) (omega arith) (t % 10) (omega arith) in
    rw w (leads-digit (t / 10) ((0x30 + t % 10) ∷ s) (omega arith) (omega arith) ∙ then-digit (t / 10) (t % 10) s (omega arith)
    ∙ ap (λ z. tile_within z 2) e ∙ within-tile t 2 h k))
