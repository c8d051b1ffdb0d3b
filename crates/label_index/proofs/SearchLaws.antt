-- Search through the index: the first line of its range that matches is the label taken, and where none does no label matches.
use mathlib.Core.Path.{◌≡◌, refl, sym, ap, ap₂, ◌∙◌, subst}
use mathlib.Core.Bool.{true, false, ◌&&◌, true≢false}
use mathlib.Core.List.{List, [], ◌∷◌, Memᴰ}
use mathlib.Core.Option.{none, some}
use Prim.Native.Nat.{ℕ, ◌+◌, ◌-◌, ◌*◌, ◌/◌, ◌%◌, ◌≤◌, ◌<◌}
use native.Mathlib.Omega.{arith}
use borrow.Author.Tests.{ltb-true, ltb-false}
use lib.Dec.{eqb, ltb}
use lib.ListN.{length, get_or, take, drop}
use Rattle.std.specs.List.{starts_with as begins_with}
use Rattle.std.proofs.Math.Bool.{and-true}
use Rattle.laws.specs.Cases.{split}
use Rattle.laws.specs.Members.{at_in, mem_at}
use Rattle.label_index.specs.Labels.{Label, GoodLabel}
use Rattle.label_index.specs.Matches.{starts_with, match_of, match_in}
use Rattle.label_index.specs.Index.{no_label, label_at, first_byte, first_in, order_number, SoundLabel, LabelsIndexed, FirstByteRange}
use Rattle.label_index.specs.MatchLaws.{NotBetter, NoneBetter, taken-by, match_is, match_absent, starts_first}
use Rattle.label_index.proofs.OrderLaws.{line_of, place_of, order-ascends}

-- ---- a text that starts with a label, as the library tests it
pub starts-is : (label s : List ℕ) → begins_with eqb s label ≡ starts_with label s
unfolding starts_with
starts-is [] s = refl
starts-is (a ∷ label) [] = refl
starts-is (a ∷ label) (b ∷ s) = ap (eqb a b &&◌) (starts-is label s)

-- a label of one byte is compared by that byte
pub one-byte : (label s : List ℕ) → length label ≡ 1 → 0 < length s → eqb (get_or label 0 0) (get_or s 0 0) ≡ starts_with label s
unfolding starts_with
one-byte [] s e h = absurd (omega arith)
one-byte (a ∷ []) [] e h = absurd (omega arith)
one-byte (a ∷ []) (b ∷ s) e h = sym (and-true (eqb a b))
one-byte (a ∷ b ∷ label) s e h = absurd (omega arith)

-- ---- what the code reads at a place of the order: where the line's label stands, how long it is, and its bytes
abbrev pub start_at : (starts order : List ℕ) → ℕ → ℕ
start_at starts order i = get_or starts (get_or order i 0 % 256) 0

abbrev pub size_at : (order : List ℕ) → ℕ → ℕ
size_at order i = 15 - get_or order i 0 / 16384 % 16

abbrev pub bytes_at : (file starts order : List ℕ) → ℕ → List ℕ
bytes_at file starts order i = take (size_at order i) (drop (start_at starts order i) file)

-- the line whose number stands there
pub record IndexEntry (file : List ℕ) (ls : List Label) (starts order : List ℕ) (i : ℕ) : Type 0 where
  pub line : ℕ
  pub lent : line < length ls
  pub sound : SoundLabel (label_at ls line)
  pub number : get_or order i 0 ≡ order_number line (label_at ls line)
  pub place : get_or order i 0 % 256 ≡ line
  pub first : first_in order i ≡ first_byte (label_at ls line)
  pub tile : get_or order i 0 / 256 % 64 ≡ (label_at ls line).0
  pub size : size_at order i ≡ length (label_at ls line).1
  pub inside : start_at starts order i + size_at order i ≤ length file
  pub bytes : bytes_at file starts order i ≡ (label_at ls line).1

-- what a number of the order holds: first byte, 15 less the label's length, tile, line
number-holds : (z f d t k : ℕ) → d < 16 → t < 64 → k < 256 → z ≡ ((f * 16 + d) * 64 + t) * 256 + k
    → (z / 262144 ≡ f) × (z / 16384 % 16 ≡ d) × (z / 256 % 64 ≡ t) × (z % 256 ≡ k)
number-holds z f d t k hd ht hk e = (omega arith, omega arith, omega arith, omega arith)

-- of two lines with the same first byte the one with the lower number is no worse
lower_best : (l k : Label) (i j : ℕ) → GoodLabel l → GoodLabel k → i < 256 → j < 256 → first_byte l ≡ first_byte k
    → order_number i l ≤ order_number j k → NotBetter (match_of k) (match_of l)
lower_best l k i j g o hi hj e h =
    let a = g.tile_high in let b = g.few_bytes in let c = o.tile_high in let d = o.few_bytes in
    record { shorter = omega arith; higher = λ q. omega arith }

module _ {file : List ℕ} {ls : List Label} {starts order : List ℕ} (x : LabelsIndexed file ls starts order) where
  entry_of : (i k : ℕ) → k < length ls → get_or order i 0 ≡ order_number k (label_at ls k) → IndexEntry file ls starts order i
  entry_of i k h e =
      let l = label_at ls k in
      let g = x.sound k h in
      let few = g.good.few_bytes in
      let high = g.good.tile_high in
      let line : k < 256 = let n = x.few in omega arith in
      let holds = number-holds (get_or order i 0) (first_byte l) (15 - length l.1) l.0 k (omega arith) (omega arith) line e in
      let size : size_at order i ≡ length l.1 = let less = holds.1 in omega arith in
      let start : start_at starts order i ≡ get_or starts k 0 = ap (λ n. get_or starts n 0) holds.3 in
      let inside = x.inside k h in
      record {
        line = k;
        lent = h;
        sound = g;
        number = e;
        place = holds.3;
        first = holds.0;
        tile = holds.2;
        size = size;
        inside = omega arith;
        bytes = ap₂ (λ n p. take n (drop p file)) size start ∙ x.stands k h;
      }

  pub entry : (i : ℕ) → i < length ls → IndexEntry file ls starts order i
  entry i h = let r = line_of x i h in entry_of i r.line r.lent r.number

  -- each label has an entry
  record LabelPlace (l : Label) : Type 0 where
    pub at : ℕ
    pub lent : at < length ls
    pub entry-is : IndexEntry file ls starts order at
    pub label : label_at ls entry-is.line ≡ l

  place_of_label : (l : Label) → Memᴰ l ls → LabelPlace l
  unfolding entry_of
  place_of_label l m =
      let q = mem_at ls l no_label m in
      let p = place_of x q.0 q.1 in
      record { at = p.0; lent = p.1; entry-is = entry_of p.0 q.0 q.1 p.2; label = q.2 }

-- ---- the search in a range
-- no line from place `from` of the order to place i matches
abbrev pub NoneMatches : (file starts order s : List ℕ) → (from i : ℕ) → Type 0
NoneMatches file starts order s from i = (j : ℕ) → from ≤ j → j < i → starts_with (bytes_at file starts order j) s ≡ false

module _ (file starts order s : List ℕ) (from : ℕ) where
  pub none_yet : NoneMatches file starts order s from from
  none_yet j h k = absurd (omega arith)

  pub none_more : (i : ℕ) → NoneMatches file starts order s from i → starts_with (bytes_at file starts order i) s ≡ false
      → NoneMatches file starts order s from (i + 1)
  none_more i p e j h k =
      split (ltb j i)
      (λ t. p j h (ltb-true j i t))
      (λ t. let l = ltb-false j i t in let q : j ≡ i = omega arith in rw q e)

module _ {file : List ℕ} {ls : List Label} {starts order : List ℕ} (x : LabelsIndexed file ls starts order)
    (s : List ℕ) {from to : ℕ} (range : FirstByteRange (length ls) order (get_or s 0 0) from to) where
  -- a label that matches has an entry in the range, not before the place
  later : (i : ℕ) → NoneMatches file starts order s from i → (l : Label) (m : Memᴰ l ls) → starts_with l.1 s ≡ true
      → (i ≤ (place_of_label x l m).at) × ((place_of_label x l m).at < to) × (first_byte l ≡ get_or s 0 0)
  later i p l m e =
      let r = place_of_label x l m in
      let n = r.entry-is in
      let size = ap (λ (k : Label). length k.1) r.label in
      let some_bytes = n.sound.good.some_bytes in
      let first : first_byte l ≡ get_or s 0 0 = starts_first l.1 s (omega arith) e in
      let in_range = range.all r.at r.lent (n.first ∙ ap first_byte r.label ∙ first) in
      let matches : starts_with (bytes_at file starts order r.at) s ≡ true
      = ap (λ (k : List ℕ). starts_with k s) (n.bytes ∙ ap (λ (k : Label). k.1) r.label) ∙ e in (
        split (ltb r.at i)
            (λ t. absurd (true≢false (sym matches ∙ p r.at in_range.0 (ltb-true r.at i t))))
            (λ t. ltb-false r.at i t),
        in_range.1,
        first,
      )

  pub search_absent : NoneMatches file starts order s from to → match_in ls s ≡ none
  search_absent p =
      match_absent ls s
      (λ l m. split (starts_with l.1 s) (λ e. let r = later to p l m e in let h = r.0 in let k = r.1 in absurd (omega arith)) (λ e. e))

  module _ (i : ℕ) (h : i < length ls) (p : NoneMatches file starts order s from i)
      (e : starts_with (bytes_at file starts order i) s ≡ true) where
    abbrev mine : Label
    mine = label_at ls (entry x i h).line

    matches : starts_with mine.1 s ≡ true
    matches = ap (λ (k : List ℕ). starts_with k s) (sym (entry x i h).bytes) ∙ e

    no-better : NoneBetter ls s (match_of mine)
    no-better k m q =
        let r = later i p k m q in
        let f = place_of_label x k m in
        let n = entry x i h in
        let o = f.entry-is in
        let few = x.few in
        let low : n.line < 256 = let a = n.lent in omega arith in
        let high : o.line < 256 = let a = o.lent in omega arith in
        let first = starts_first mine.1 s n.sound.good.some_bytes matches ∙ sym (ap first_byte f.label ∙ r.2) in
        let up : order_number n.line mine ≤ order_number o.line (label_at ls o.line)
        = let a = n.number in let b = o.number in let c = order-ascends x i f.at r.0 f.lent in omega arith in
        subst (λ (z : Label). NotBetter (match_of z) (match_of mine)) f.label
        (lower_best mine (label_at ls o.line) n.line o.line n.sound.good o.sound.good low high first up)

    pub search-found : match_in ls s ≡ some (get_or order i 0 / 256 % 64, size_at order i)
    search-found =
        let n = entry x i h in
        match_is ls s (match_of mine) (taken-by mine (at_in ls n.line no_label n.lent) matches refl no-better)
        ∙ ap some (ap₂ (λ t w. (t, w)) (sym n.tile) (sym n.size))
