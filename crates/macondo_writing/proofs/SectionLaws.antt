-- Sections of a file: their numbers written one by one, and the sections one after the other. The idea: what is left to write, written
-- where it goes, gives the whole written at once.
use Rattle.std.specs.Prelude.{◌≡◌, List, [], ◌∷◌, ◌++◌, map, ℕ, suc, ◌+◌, ◌-◌, ◌*◌, ◌≤◌, ◌<◌, length, get_or, set, take, drop}
use Rattle.std.proofs.Common.{refl, ap, sym, ◌∙◌, arith, add-one, below_more, length-append, drop-cons, drop_of_length-le}
use Rattle.std.proofs.Math.ListN.{get_or-append, length-map}
use Rattle.std.proofs.lemmas.List.Edits.{sets}
use mathlib.Core.List.{append-nil}
use Rattle.std.proofs.Math.Seq.{get_or-append_seam}
use Rattle.std.proofs.lemmas.List.{ext_get_or}
use Rattle.laws.specs.Members.{get_or-map-in}
use Rattle.laws.specs.ListWrites.{sets_append}
use Rattle.endian.specs.Bytes.{big_endian, big_endians}
use Rattle.endian.proofs.BigLaws.{big_length, bigs_length, bigs_append}
use Rattle.endian.specs.Putting.{Putting, put-start, put-room, put_next, put-done}
use Rattle.laws.specs.Tables.{table-length}
use Rattle.macondo_file.specs.File.{section}
use Rattle.macondo_file.proofs.ReadingLaws.{section-length}
use Rattle.letter_sets.specs.SetNumbers.{set_at, sets_in}
use Rattle.macondo_writing.specs.declared.tables.SectionCounts.{SectionCounts}
use Rattle.macondo_writing.specs.FileTables.{block_nodes_from, file_in, MadeOf}

module _ (width : ℕ) (l before : List ℕ) (at : ℕ) where
  -- over the bytes now, the numbers from place i on go to w
  abbrev pub SectionWriting : ℕ → List ℕ → ℕ → Type 0
  SectionWriting i now w = Putting (big_endians width l) before at (big_endians width (drop i l)) now w

  pub writing_start : SectionWriting 0 before at
  writing_start = put-start (big_endians width l) before at

  left-next : (i v : ℕ) → i < length l → get_or l i 0 ≡ v → big_endians width (drop i l) ≡ big_endian width v ++ big_endians width (drop (i + 1) l)
  unfolding big_endians
  left-next i v h e = rw add-one (ap (big_endians width) (drop-cons l i 0 h ∙ ap (◌∷ drop (suc i) l) e))

  left-none : (i : ℕ) → length l ≤ i → big_endians width (drop i l) ≡ []
  unfolding big_endians
  left-none i h = ap (big_endians width) (drop_of_length-le l h)

  -- where there are `count` of them
  module _ {count : ℕ} (many : length l ≡ count) (i : ℕ) {now : List ℕ} {w : ℕ} (h : SectionWriting i now w) where
    pub writing-room : i < count → at + width * count ≤ length before → w + width ≤ length now
    writing-room k room =
        let a = big_length width (get_or l i 0) in
        let b = bigs_length width l ∙ ap (width *◌) many in
        let next = left-next i (get_or l i 0) (omega arith) refl in
        let r = put-room h (big_endian width (get_or l i 0)) (big_endians width (drop (i + 1) l)) next (omega arith) in
        omega arith

    pub writing-next : (v : ℕ) → i < count → get_or l i 0 ≡ v → {after : List ℕ} → after ≡ sets now w (big_endian width v)
        → SectionWriting (i + 1) after (w + width)
    writing-next v k e s =
        put_next h (big_endian width v) (big_endians width (drop (i + 1) l)) (left-next i v (omega arith) e) (ap (w +◌) (sym (big_length width v))) s

    pub writing-done : count ≤ i → now ≡ sets before at (big_endians width l)
    writing-done k = put-done h (left-none i (omega arith))

-- ---- what is made of each entry of a list, written one after the other
module _ (made : ℕ → ℕ → Type 0) (l before : List ℕ) (at : ℕ) where
  -- over the bytes now, the first i entries are written
  pub record EachWritten (i : ℕ) (now : List ℕ) : Type 0 where
    pub numbers : List ℕ
    pub many : length numbers ≡ i
    pub each : (k : ℕ) → k < i → made (get_or l k 0) (get_or numbers k 0)
    pub stored : now ≡ sets before at (big_endians 4 numbers)

  pub each-start : EachWritten 0 before
  unfolding big_endians
  each-start = record { numbers = []; many = refl; each = λ k h. absurd (omega arith); stored = refl }

  pub each-next : (i r : ℕ) {now after : List ℕ} → EachWritten i now → made (get_or l i 0) r → after ≡ sets now (at + 4 * i) (big_endian 4 r)
      → EachWritten (i + 1) after
  unfolding big_endians
  each-next i r h m e =
      let vs = h.numbers in
      let long = bigs_length 4 vs in
      let many = h.many in
      let place : at + 4 * i ≡ at + length (big_endians 4 vs) = omega arith in
      let last : get_or (vs ++ r ∷ []) i 0 ≡ r = rw (sym many) (get_or-append_seam vs r [] 0) in
      record {
        numbers = vs ++ r ∷ [];
        many = length-append vs (r ∷ []) ∙ ap (λ n. n + 1) many;
        each = below_more _ _ (λ k b. rw (get_or-append vs (r ∷ []) 0 k (omega arith)) (h.each k b)) (rw last m);
        stored = e ∙ ap (λ b. sets b (at + 4 * i) (big_endian 4 r)) h.stored ∙ ap (λ p. sets (sets before at (big_endians 4 vs)) p (big_endian 4 r)) place
            ∙ sym (sets_append before at (big_endians 4 vs) (big_endian 4 r)) ∙ ap (λ b. sets before at (big_endians 4 vs ++ b)) (sym (append-nil (big_endian 4 r)))
            ∙ ap (sets before at) (sym (bigs_append 4 vs (r ∷ [])));
      }

  pub each-done : {i : ℕ} {now : List ℕ} → EachWritten i now → i ≡ length l → (vs : List ℕ) × MadeOf made l vs × (now ≡ sets before at (big_endians 4 vs))
  each-done h e = (h.numbers, record { many = h.many ∙ e; each = λ k b. h.each k (omega arith) }, h.stored)

-- where that is a function's value, they are the list's image
pub made-map : {made : ℕ → ℕ → Type 0} {l vs : List ℕ} (f : ℕ → ℕ) → ((x r : ℕ) → made x r → r ≡ f x) → MadeOf made l vs → vs ≡ map f l
made-map {l = l} {vs} f k m =
    ext_get_or 0 vs (map f l) (m.many ∙ sym (length-map l f))
    (λ i h. let n = m.many in k (get_or l i 0) (get_or vs i 0) (m.each i (omega arith)) ∙ sym (get_or-map-in f l i 0 0 (omega arith)))

-- the numbers after their count
pub section-stored : (width : ℕ) (l before : List ℕ) (at k : ℕ) {counted after : List ℕ} → k ≡ length l
    → counted ≡ sets before at (big_endian 4 k) → after ≡ sets counted (at + 4) (big_endians width l) → after ≡ sets before at (section width l)
section-stored width l before at k e c a =
    a ∙ ap (λ b. sets b (at + 4) (big_endians width l)) (c ∙ ap (λ n. sets before at (big_endian 4 n)) e)
    ∙ sym (sets_append before at (big_endian 4 (length l)) (big_endians width l))

-- four bytes, and text after its length
pub opening-stored : (before : List ℕ) (magic : ℕ) (text : List ℕ) {a b : List ℕ} → a ≡ sets before 0 (big_endian 4 magic)
    → b ≡ sets (set a 4 (length text)) 5 text → b ≡ sets before 0 (big_endian 4 magic ++ (length text ∷ text))
opening-stored before magic text i j =
    j ∙ ap (λ l. sets l 4 (length text ∷ text)) i ∙ sym (sets_append before 0 (big_endian 4 magic) (length text ∷ text))

-- ---- how long they are
opening-length : (magic : ℕ) (name : List ℕ) → length (big_endian 4 magic ++ (length name ∷ name)) ≡ 5 + length name
opening-length magic name =
    let a = big_length 4 magic in
    let b = length-append (big_endian 4 magic) (length name ∷ name) in
    omega arith

-- ---- the file, section after section
pub file-stored : (magic : ℕ) (name g labels letters ranks w : List ℕ) (c : SectionCounts) (before : List ℕ) {first second third after : List ℕ}
    → first ≡ sets before 0 (big_endian 4 magic ++ (length name ∷ name))
    → second ≡ sets first (5 + length name) (section 4 (map (λ t. get_or labels t 0) (take (length labels - 1) letters)))
    → third ≡ sets second (5 + length name + 4 + 4 * length (take (length labels - 1) letters)) (section 8 (sets_in (length g) w c.sets))
    → after ≡ sets third (5 + length name + 4 + 4 * length (take (length labels - 1) letters) + 4 + 8 * c.sets) (section 4 (block_nodes_from g labels ranks w 0 c.blocks))
    → after ≡ sets before 0 (file_in magic name g labels letters ranks w c)
unfolding file_in
file-stored magic name g labels letters ranks w c before h1 h2 h3 h4 =
    let opening = big_endian 4 magic ++ (length name ∷ name) in
    let l = map (λ t. get_or labels t 0) (take (length labels - 1) letters) in
    let s = sets_in (length g) w c.sets in
    let n = block_nodes_from g labels ranks w 0 c.blocks in
    let o = opening-length magic name in
    let a = section-length 4 l in
    let b = section-length 8 s in
    let d = length-map (take (length labels - 1) letters) (λ t. get_or labels t 0) in
    let e = table-length c.sets (set_at (length g) w) in
    let e1 : 5 + length name ≡ 0 + length opening = omega arith in
    let e2 : 5 + length name + 4 + 4 * length (take (length labels - 1) letters) ≡ 5 + length name + length (section 4 l) = omega arith in
    let e3 : 5 + length name + 4 + 4 * length (take (length labels - 1) letters) + 4 + 8 * c.sets ≡ 5 + length name + 4 + 4 * length (take (length labels - 1) letters) + length (section 8 s) =
    omega arith in
    let p0 = put-start (opening ++ (section 4 l ++ (section 8 s ++ section 4 n))) before 0 in
    let p1 = put_next p0 opening (section 4 l ++ (section 8 s ++ section 4 n)) refl e1 h1 in
    let p2 = put_next p1 (section 4 l) (section 8 s ++ section 4 n) refl e2 h2 in
    let p3 = put_next p2 (section 8 s) (section 4 n) refl e3 h3 in
    let p4 = put_next p3 (section 4 n) [] (sym (append-nil (section 4 n))) refl h4 in
    put-done p4 refl
