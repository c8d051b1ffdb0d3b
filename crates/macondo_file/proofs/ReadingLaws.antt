-- The sections of a Macondo file, read back: the reader sees the code points, sets and nodes that were written. Each section's count
-- says how far it goes. And the file's length.
use Rattle.std.specs.Prelude.{◌≡◌, false, ◌&&◌, ◌≢◌, ℕ, ◌+◌, ◌-◌, ◌*◌, ◌^◌, ◌≤◌, ◌<◌, eqb, leb, length, drop}
use Rattle.std.proofs.Math.Path.{refl, ap}
use Rattle.std.proofs.Common.{sym, ap₂, ◌∙◌, arith, length-append, length-drop, take_at, drop_at, get_or-drop, leb-false, eqb-true}
use mathlib.Core.List.Memᴰ
use mathlib.Core.List.{List, [], ◌∷◌, ◌++◌, append_assoc, append-nil, Memᴰ}
use Rattle.std.proofs.Math.ListN.{get_or, get_or-eq_default}
use Rattle.std.proofs.lemmas.List.{get_or_at}
use Rattle.std.proofs.lemmas.Bool.{eqb-false}
use Rattle.laws.specs.Cases.{split, or_false-right}
use Rattle.laws.specs.Lists.{some_of}
use Rattle.laws.specs.Members.{at_in, in_map, none_of}
use Rattle.endian.specs.Bytes.{big_endian, big_endians, from_big, big_numbers}
use Rattle.endian.proofs.BigLaws.{big_length, bigs_length, big_back, numbers-back}
use Rattle.graph.specs.Runs.{Graph}
use Rattle.macondo_file.specs.Alphabet.{code_point, letters, letter_of}
use Rattle.macondo_file.proofs.AlphabetLaws.{in_letters, code_point_at, code_points_length}
use Rattle.macondo_file.specs.File.{Format, dawg, gaddag, marks, letter_sets, macondo_nodes, code_points, section, macondo_file}
use Rattle.macondo_file.specs.Reading.{block_words, count_at, numbers_at, after_section, letter_section, set_section, node_section, macondo_words, code_point_in}
use Rattle.macondo_file.specs.Row.{no_code_point}
use Rattle.macondo_file.specs.RowLaws.{MacondoReady}
use Rattle.macondo_file.proofs.BlockLaws.{sets-few, blocks-most-nodes, sets_below, macondo-nodes-below}

-- ---- one section: its count, then its numbers
pub section-length : (width : ℕ) (l : List ℕ) → length (section width l) ≡ 4 + width * length l
section-length width l =
    let a = big_length 4 (length l) in
    let b = bigs_length width l in
    length-append (big_endian 4 (length l)) (big_endians width l) ∙ omega arith

module _ (width : ℕ) (l rest : List ℕ) (small : length l < 256 ^ 4) where
  count-first : section width l ++ rest ≡ big_endian 4 (length l) ++ (big_endians width l ++ rest)
  count-first = append_assoc (big_endian 4 (length l)) (big_endians width l) rest

  section-count : count_at (section width l ++ rest) ≡ length l
  section-count =
      ap count_at count-first
      ∙ ap (from_big 0) (take_at (big_endian 4 (length l)) (big_endians width l ++ rest) 4 (big_length 4 (length l)))
      ∙ big_back 4 (length l) small

  section-after : after_section width (section width l ++ rest) ≡ rest
  section-after =
      ap (λ n. drop (4 + width * n) (section width l ++ rest)) section-count
      ∙ drop_at (section width l) rest (4 + width * length l) (section-length width l)

  section-numbers : ((v : ℕ) → Memᴰ v l → v < 256 ^ width) → numbers_at width (section width l ++ rest) ≡ l
  section-numbers h =
      ap (λ n. big_numbers width n (drop 4 (section width l ++ rest))) section-count
      ∙ ap (λ b. big_numbers width (length l) (drop 4 b)) count-first
      ∙ ap (big_numbers width (length l)) (drop_at (big_endian 4 (length l)) (big_endians width l ++ rest) 4 (big_length 4 (length l)))
      ∙ numbers-back width l rest h

-- ---- the file
magic-length : (f : Format) → length (marks f).magic ≡ 4
magic-length dawg = refl
magic-length gaddag = refl

module _ (g : Graph) (labels : List ℕ) (f : Format) (name : List ℕ) where
  abbrev node_part : List ℕ
  node_part = section 4 (macondo_nodes g labels f)

  abbrev set_part : List ℕ
  set_part = section 8 (letter_sets g labels f) ++ node_part

  abbrev letter_part : List ℕ
  letter_part = section 4 (code_points labels) ++ set_part

  abbrev front : List ℕ
  front = (marks f).magic ++ (length name ∷ name)

  file-is : macondo_file g labels f name ≡ front ++ letter_part
  unfolding macondo_file
  file-is = refl

  front_length : length front ≡ 5 + length name
  front_length = let a = magic-length f in length-append (marks f).magic (length name ∷ name) ∙ omega arith

  pub file-length : length (macondo_file g labels f name)
      ≡ 17 + length name + 4 * (length labels - 1) + 8 * length (letter_sets g labels f) + 4 * length (macondo_nodes g labels f)
  file-length =
      let a = front_length in
      let b = code_points_length labels in
      let c = section-length 4 (code_points labels) in
      let d = section-length 8 (letter_sets g labels f) in
      let e = section-length 4 (macondo_nodes g labels f) in
      let h = length-append front letter_part in
      let i = length-append (section 4 (code_points labels)) set_part in
      let j = length-append (section 8 (letter_sets g labels f)) node_part in
      ap length file-is ∙ omega arith

  name-read : get_or (macondo_file g labels f name) 4 0 ≡ length name
  name-read =
      ap (λ b. get_or b 4 0) (file-is ∙ append_assoc (marks f).magic (length name ∷ name) letter_part)
      ∙ get_or_at (marks f).magic (length name) (name ++ letter_part) 0 4 (magic-length f)

  letters-read : letter_section (macondo_file g labels f name) ≡ letter_part
  letters-read =
      ap₂ (λ n b. drop (5 + n) b) name-read file-is
      ∙ drop_at front letter_part (5 + length name) front_length

module _ {g : Graph} {labels : List ℕ} (c : MacondoReady g labels) (f : Format) (name : List ℕ) where
  abbrev file : List ℕ
  file = macondo_file g labels f name

  letters-counted : length (code_points labels) < 256 ^ 4
  letters-counted = let a = code_points_length labels in let b = c.fifty in omega arith

  letter-count-back : count_at (letter_section file) ≡ length (code_points labels)
  letter-count-back = ap count_at (letters-read g labels f name) ∙ section-count 4 (code_points labels) (set_part g labels f name) letters-counted

  sets-read : set_section file ≡ set_part g labels f name
  sets-read = ap (after_section 4) (letters-read g labels f name) ∙ section-after 4 (code_points labels) (set_part g labels f name) letters-counted

  sets-counted : length (letter_sets g labels f) < 256 ^ 4
  sets-counted =
      let a = sets-few g labels f in
      let b = blocks-most-nodes c f in
      let d = c.fit.most in
      omega arith

  nodes-read : node_section file ≡ node_part g labels f name ++ []
  nodes-read =
      ap (after_section 8) sets-read
      ∙ section-after 8 (letter_sets g labels f) (node_part g labels f name) sets-counted
      ∙ sym (append-nil (node_part g labels f name))

  sets-back : numbers_at 8 (set_section file) ≡ letter_sets g labels f
  sets-back = ap (numbers_at 8) sets-read ∙ section-numbers 8 (letter_sets g labels f) (node_part g labels f name) sets-counted (sets_below c f)

  set-count-back : count_at (set_section file) ≡ length (letter_sets g labels f)
  set-count-back = ap count_at sets-read ∙ section-count 8 (letter_sets g labels f) (node_part g labels f name) sets-counted

  -- ---- as many letters as there are tiles from 1 up
  pub letter-count-read : count_at (letter_section file) ≡ length labels - 1
  letter-count-read = letter-count-back ∙ code_points_length labels

  module _ (few : length (macondo_nodes g labels f) ≤ 2 ^ 24) where
    nodes-back : numbers_at 4 (node_section file) ≡ macondo_nodes g labels f
    nodes-back = ap (numbers_at 4) nodes-read ∙ section-numbers 4 (macondo_nodes g labels f) [] (omega arith) (macondo-nodes-below c f few)

    count-back : count_at (node_section file) ≡ length (macondo_nodes g labels f)
    count-back = ap count_at nodes-read ∙ section-count 4 (macondo_nodes g labels f) [] (omega arith)

    -- the reader walks the sets and nodes that were written
    pub file-read : macondo_words file ≡ block_words (letter_sets g labels f) (macondo_nodes g labels f) (length (macondo_nodes g labels f)) 0
    unfolding macondo_words
    file-read i = block_words (sets-back i) (nodes-back i) (count-back i) 0

    pub length-read : length file
        ≡ 5 + get_or file 4 0 + (4 + 4 * count_at (letter_section file)) + (4 + 8 * count_at (set_section file)) + (4 + 4 * count_at (node_section file))
    length-read =
        let a = file-length g labels f name in
        let b = name-read g labels f name in
        let d = letter-count-read in
        let e = set-count-back in
        let h = count-back in
        omega arith

  -- ---- the code points
  module _ (ok : some_of no_code_point (drop 1 labels) ≡ false) where
    label-below : (t : ℕ) → 0 < t → t < length labels → get_or labels t 0 < 256 ^ 4
    label-below t z h =
        let label = get_or labels t 0 in
        let n = length-drop 1 labels in
        let i : 1 + (t - 1) ≡ t = omega arith in
        let m = at_in (drop 1 labels) (t - 1) 0 (omega arith) in
        let e = get_or-drop 1 labels (t - 1) 0 ∙ ap (λ k. get_or labels k 0) i in
        let no = none_of no_code_point (drop 1 labels) ok label (Memᴰ.cast (sym e) m) in
        let most = leb-false 0x110000 label (or_false-right (leb 0xD800 label && leb label 0xDFFF) (leb 0x110000 label) no) in
        omega arith

    letters-back : numbers_at 4 (letter_section file) ≡ code_points labels
    letters-back =
        ap (numbers_at 4) (letters-read g labels f name)
        ∙ section-numbers 4 (code_points labels) (set_part g labels f name) letters-counted
        (λ v m.
        let r = in_map (λ t. get_or labels t 0) (letters labels) v m in
        let b = in_letters labels r.0 r.1 in
        rw r.2 (label-below r.0 b.0 b.1))

    pub labels-read : (t : ℕ) → 0 < t → t < length labels → code_point_in file (letter_of labels t) ≡ get_or labels t 0
    labels-read t z h = ap (λ l. get_or l (letter_of labels t) 0x5E) letters-back ∙ code_point_at labels t z h 0x5E

    -- and tile 0's stands nowhere
    zero-read : code_point_in file (letter_of labels 0) ≡ 0x5E
    unfolding letter_of
    zero-read =
        let a = code_points_length labels in
        let b = c.fifty in
        ap (λ l. get_or l 50 0x5E) letters-back ∙ get_or-eq_default (code_points labels) 0x5E (omega arith)

    pub tile-read : (t : ℕ) → t < length labels → code_point_in file (letter_of labels t) ≡ code_point labels t
    tile-read t h =
        split (eqb t 0)
        (λ e. rw (eqb-true t 0 e) zero-read)
        (λ e. let n : t ≢ 0 = eqb-false t 0 e in rw (e, code_point) (labels-read t (omega arith) h))
