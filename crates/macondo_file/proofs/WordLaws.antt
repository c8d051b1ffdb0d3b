-- The words read from a Macondo file are those of its start node, renamed, less those ending in tile 0. The idea: the words from a block
-- in the file and the renamed words from a node are made alike, of a node's letter alone or before a word from its arc.
use Rattle.std.specs.Prelude.{◌≡◌, refl, true, false, not, ◌⊎◌, ◌↔◌, List, [], ◌∷◌, ◌++◌, map, eqb, length}
use Rattle.std.proofs.Common.{sym, ap, ◌∙◌, subst, inl, inr, ⊎_elim, arith}
use Rattle.std.proofs.Math.Path.{ap₂}
use mathlib.Core.List.Memᴰ
use mathlib.Core.List.{Memᴰ}
use Prim.Native.Nat.{ℕ, zero, suc, ◌/◌, ◌%◌, ◌^◌, ◌≤◌, ◌<◌}
use Rattle.std.proofs.Math.Pow.{high, low}
use borrow.Author.Tests.{not-true}
use Rattle.laws.specs.Cases.{split, and_left, and_right}
use Rattle.laws.specs.Lists.{filtered, all_mem}
use Rattle.laws.specs.Members.{in_map, map_in, in_filtered, filtered_in, in_join, join_in}
use Rattle.node.specs.Nodes.{kbwg, tile, arc, accepts}
use Rattle.graph.specs.Runs.{Graph, start_node}
use Rattle.graph.specs.Words.{Word, in_order, spelled, words_within, words}
use Rattle.graph.proofs.WordsAscend.{From, within-nonempty}
use Rattle.export.specs.Starts.{run_of, has_arc, arcs_from, deeper}
use Rattle.export.specs.ChainLaws.{arc-from, shallow-closed, shallow-within, words-within}
use Rattle.macondo_file.specs.Alphabet.{letter_at}
use Rattle.macondo_file.proofs.AlphabetLaws.{letter-most}
use Rattle.macondo_file.specs.File.{Format, marks, arcs_of, ends_in_letter, set_of, blocks, letter_sets, block_number, arc_node, arc_nodes, macondo_nodes, macondo_file}
use Rattle.macondo_file.specs.Reading.{set_words, arc_words, block_words, macondo_words}
use Rattle.macondo_file.specs.Spelling.{word_ends_in_letter, renamed_to_letters, ending_in_letters}
use Rattle.macondo_file.specs.RowLaws.{MacondoReady}
use Rattle.macondo_file.proofs.ArcLaws.{in_arcs, arcs_in}
use Rattle.macondo_file.proofs.SetLaws.{in_set, set_in, in_set-words, set-words_in}
use Rattle.macondo_file.proofs.BlockLaws.{number-within, heads-few, start-number, format-start-inside, start-block, child-block}
use Rattle.macondo_file.proofs.BlockReading.{block_read}
use Rattle.macondo_file.proofs.ReadingLaws.{file-read}

-- ---- the words along a list of nodes, and those of one node
pub in_in_order : (f : ℕ → List Word) (l : List ℕ) (w : Word) → Memᴰ w (in_order f l) → (v : ℕ) × Memᴰ v l × Memᴰ w (f v)
unfolding in_order
in_in_order f l w m = in_join f l w m

in_order_in : (f : ℕ → List Word) (l : List ℕ) (v : ℕ) (w : Word) → Memᴰ v l → Memᴰ w (f v) → Memᴰ w (in_order f l)
unfolding in_order
in_order_in f l v w m n = join_in f l v w m n

abbrev own : ℕ → List Word
own v = elim (accepts kbwg v) [ true ↦ (tile kbwg v ∷ []) ∷ [] | false ↦ [] ]

module _ (from : ℕ → List Word) (v : ℕ) where
  own_in : accepts kbwg v ≡ true → Memᴰ (tile kbwg v ∷ []) (spelled kbwg from v)
  unfolding spelled
  own_in a = rw (a, spelled) (Memᴰ.head refl)

  arc_in : (u : Word) → has_arc v ≡ true → Memᴰ u (from (arc kbwg v)) → Memᴰ (tile kbwg v ∷ u) (spelled kbwg from v)
  unfolding spelled
  arc_in u h m =
      let z = not-true (eqb (arc kbwg v) 0) h in
      Memᴰ.append_right (own v) (rw z (map_in (tile kbwg v ∷◌) (from (arc kbwg v)) u m))

-- a word of node v is its tile alone, or its tile before a word from its arc
pub in_spelled : (from : ℕ → List Word) (v : ℕ) (w : Word) → Memᴰ w (spelled kbwg from v)
    → ((accepts kbwg v ≡ true) × (w ≡ tile kbwg v ∷ []))
    ⊎ ((u : Word) × (has_arc v ≡ true) × Memᴰ u (from (arc kbwg v)) × (w ≡ tile kbwg v ∷ u))
unfolding spelled
in_spelled from v w m =
    ⊎_elim
    (λ i. split (accepts kbwg v)
    (λ a. inl (a, Memᴰ.eq_of_singleton (rw (a, own) at i)))
    (λ a. absurd (Memᴰ.not-nil (rw (a, own) at i))))
    (λ i. split (eqb (arc kbwg v) 0)
    (λ z. absurd (Memᴰ.not-nil (rw z at i)))
    (λ z. let r = in_map (tile kbwg v ∷◌) (from (arc kbwg v)) w (rw z at i) in inr (r.0, ap not z, r.1, r.2)))
    (Memᴰ.append_cases (own v) m)

-- ---- how a word is made of letters
module _ (g : Graph) (labels : List ℕ) where
  pub data MadeOf (from : ℕ → Word → Type 0) (p : ℕ) (w : Word) : Type 0 where
    ends : (v : ℕ) → Memᴰ v (run_of g p) → ends_in_letter v ≡ true → w ≡ letter_at labels v ∷ [] → MadeOf from p w
    goes : (v : ℕ) (u : Word) → Memᴰ v (run_of g p) → has_arc v ≡ true → from (arc kbwg v) u → w ≡ letter_at labels v ∷ u → MadeOf from p w

  made_of : (from to : ℕ → Word → Type 0) (p : ℕ) → ((q : ℕ) (u : Word) → Memᴰ q (arcs_from g p) → from q u → to q u)
      → (w : Word) → MadeOf from p w → MadeOf to p w
  made_of from to p f w (ends v m e i) = ends v m e i
  made_of from to p f w (goes v u m h n i) = goes v u m h (f (arc kbwg v) u (arc-from g p v m h) n) i

  -- ---- so are the renamed words from a node
  abbrev words_up_to : ℕ → ℕ → List Word
  words_up_to k = words_within kbwg k g

  abbrev RenamedWord : ℕ → ℕ → Word → Type 0
  RenamedWord k p w = Memᴰ w (map (renamed_to_letters labels) (filtered word_ends_in_letter (words_up_to k p)))

  renamed_in : (k p : ℕ) (u : Word) → Memᴰ u (words_up_to k p) → word_ends_in_letter u ≡ true → RenamedWord k p (renamed_to_letters labels u)
  renamed_in k p u m h = map_in (renamed_to_letters labels) (filtered word_ends_in_letter (words_up_to k p)) u (filtered_in word_ends_in_letter (words_up_to k p) u m h)

  in_renamed : (k p : ℕ) (w : Word) → RenamedWord k p w
      → (u : Word) × Memᴰ u (words_up_to k p) × (word_ends_in_letter u ≡ true) × (w ≡ renamed_to_letters labels u)
  in_renamed k p w n =
      let r = in_map (renamed_to_letters labels) (filtered word_ends_in_letter (words_up_to k p)) w n in
      let s = in_filtered word_ends_in_letter (words_up_to k p) r.0 r.1 in
      (r.0, s.0, s.1, r.2)

  -- a word of a node that is in the run
  node-word : (k p v : ℕ) (u : Word) → Memᴰ v (run_of g p) → Memᴰ u (spelled kbwg (words_up_to k) v) → Memᴰ u (words_up_to (suc k) p)
  unfolding words_within
  node-word k p v u m n = in_order_in (spelled kbwg (words_up_to k)) (run_of g p) v u m n

  pub word-node : (k p : ℕ) (u : Word) → Memᴰ u (words_up_to (suc k) p) → (v : ℕ) × Memᴰ v (run_of g p) × Memᴰ u (spelled kbwg (words_up_to k) v)
  unfolding words_within
  word-node k p u m = in_in_order (spelled kbwg (words_up_to k)) (run_of g p) u m

  -- a word is not empty, so one tile before it does not change its end
  end-after-tile : (k p t : ℕ) (u : Word) → Memᴰ u (words_up_to k p) → word_ends_in_letter (t ∷ u) ≡ word_ends_in_letter u
  end-after-tile k p t [] m = absurd (all_mem (From 0) (words_up_to k p) [] (within-nonempty kbwg k g p) m)
  end-after-tile k p t (x ∷ u) m = refl

  made_renamed : (k p : ℕ) (w : Word) → MadeOf (RenamedWord k) p w → RenamedWord (suc k) p w
  made_renamed k p w (ends v m e i) =
      let a = and_left (accepts kbwg v) (not (eqb (tile kbwg v) 0)) e in
      let n = and_right (accepts kbwg v) (not (eqb (tile kbwg v) 0)) e in
      let u = tile kbwg v ∷ [] in
      rw i (renamed_in (suc k) p u (node-word k p v u m (own_in (words_up_to k) v a)) n)
  made_renamed k p w (goes v u m h n i) =
      let q = arc kbwg v in
      let r = in_renamed k q u n in
      let x = tile kbwg v ∷ r.0 in
      let end = end-after-tile k q (tile kbwg v) r.0 r.1 ∙ r.2 in
      rw (i, r.3) (renamed_in (suc k) p x (node-word k p v x m (arc_in (words_up_to k) v r.0 h r.1)) end)

  -- the letter and the word after it, of a word of node v
  node_made : (k p v : ℕ) (u : Word) → Memᴰ v (run_of g p) → Memᴰ u (spelled kbwg (words_up_to k) v) → word_ends_in_letter u ≡ true
      → MadeOf (RenamedWord k) p (renamed_to_letters labels u)
  node_made k p v u m n h =
      ⊎_elim
      (λ i.
      let z : not (eqb (tile kbwg v) 0) ≡ true = ap word_ends_in_letter (sym i.1) ∙ h in
      ends v m (rw (i.0, z)) (ap (renamed_to_letters labels) i.1))
      (λ i.
      let q = arc kbwg v in
      let end = sym (end-after-tile k q (tile kbwg v) i.0 i.2) ∙ ap word_ends_in_letter (sym i.3) ∙ h in
      goes v (renamed_to_letters labels i.0) m i.1 (renamed_in k q i.0 i.2 end) (ap (renamed_to_letters labels) i.3))
      (in_spelled (words_up_to k) v u n)

  renamed_made : (k p : ℕ) (w : Word) → RenamedWord (suc k) p w → MadeOf (RenamedWord k) p w
  renamed_made k p w n =
      let r = in_renamed (suc k) p w n in
      let j = word-node k p r.0 r.1 in
      rw r.3 (node_made k p j.0 r.0 j.1 j.2 r.2)

-- ---- so are the words from a block of the file
module _ (g : Graph) (labels : List ℕ) (f : Format) where
  -- the words that follow fewer than k arcs from a block in the file
  abbrev pub block_words_in : ℕ → ℕ → List Word
  block_words_in = block_words (letter_sets g labels f) (macondo_nodes g labels f)

module _ {g : Graph} {labels : List ℕ} (c : MacondoReady g labels) (f : Format)
    (few : length (macondo_nodes g labels f) ≤ 2 ^ 24) (shallow : deeper g 64 (start_node g (marks f).root) ≡ false) where
  abbrev nodes : List ℕ
  nodes = macondo_nodes g labels f

  abbrev ReadsBack : ℕ → ℕ → Word → Type 0
  ReadsBack k p w = Memᴰ w (block_words_in g labels f k (block_number g labels f p))

  -- an arc's node says its letter and the block that it leads to
  pub arc-read : (p v : ℕ) → Memᴰ p (blocks g labels f) → Memᴰ v (run_of g p) → has_arc v ≡ true
      → (arc_node g labels f v / 2 ^ 24 ≡ letter_at labels v) × (arc_node g labels f v % 2 ^ 24 ≡ block_number g labels f (arc kbwg v))
  arc-read p v m n h =
      let w = number-within g labels f (arc kbwg v) (child-block c f shallow p (arc kbwg v) m (arc-from g p v n h)) in
      let h : block_number g labels f (arc kbwg v) < 2 ^ 24 = omega arith in
      (high (letter_at labels v) 24 h, low (letter_at labels v) 24 h)

  module _ (k p : ℕ) (m : Memᴰ p (blocks g labels f)) where
    -- the words of the block's set, and those of its arcs
    pub block_words_lem : block_words_in g labels f (suc k) (block_number g labels f p)
        ≡ set_words 64 (set_of g labels p) ++ in_order (arc_words (block_words_in g labels f k)) (arc_nodes g labels f p)
    unfolding block_words
    block_words_lem =
        let r = block_read c f p m in
        ap₂ (λ s l. set_words 64 s ++ in_order (arc_words (block_words_in g labels f k)) l) r.set-read r.arcs-read

    made-read : (w : Word) → MadeOf g labels (ReadsBack k) p w → ReadsBack (suc k) p w
    made-read w (ends v n e i) =
        let small = letter-most labels c.fifty (tile kbwg v) in
        let here = set-words_in 64 (set_of g labels p) (letter_at labels v) (omega arith) (set_in g labels p v n e) in
        rw block_words_lem (Memᴰ.append_left _ (Memᴰ.cast i here))
    made-read w (goes v u n h t i) =
        let r = arc-read p v m n h in
        let at = map_in (arc_node g labels f) (arcs_of g labels p) v (arcs_in g labels p v n h) in
        let a = arc_node g labels f v in
        let word = map_in ((a / 2 ^ 24) ∷◌) (block_words_in g labels f k (a % 2 ^ 24)) u (rw r.1 t) in
        let here = in_order_in (arc_words (block_words_in g labels f k)) (arc_nodes g labels f p) a ((a / 2 ^ 24) ∷ u) at word in
        rw block_words_lem (Memᴰ.append_right (set_words 64 (set_of g labels p)) (Memᴰ.cast (i ∙ ap (◌∷ u) (sym r.0)) here))

    pub read_made : (w : Word) → ReadsBack (suc k) p w → MadeOf g labels (ReadsBack k) p w
    read_made w n =
        ⊎_elim
        (λ i.
        let a = in_set-words 64 (set_of g labels p) w i in
        let s = in_set g labels p a.0 a.2 in
        ends s.0 s.1 s.2 (a.3 ∙ ap (λ r. r ∷ []) s.3))
        (λ i.
        let a = in_in_order (arc_words (block_words_in g labels f k)) (arc_nodes g labels f p) w i in
        let x = in_map (arc_node g labels f) (arcs_of g labels p) a.0 a.1 in
        let y = in_map ((a.0 / 2 ^ 24) ∷◌) (block_words_in g labels f k (a.0 % 2 ^ 24)) w a.2 in
        let s = in_arcs g labels p x.0 x.1 in
        let r = arc-read p x.0 m s.0 s.1 in
        let child = ap (◌% 2 ^ 24) x.2 ∙ r.1 in
        let letter = ap (◌/ 2 ^ 24) x.2 ∙ r.0 in
        goes x.0 y.0 s.0 s.1 (subst (λ b. Memᴰ y.0 (block_words_in g labels f k b)) child y.1) (y.2 ∙ ap (◌∷ y.0) letter))
        (Memᴰ.append_cases (set_words 64 (set_of g labels p)) (rw block_words_lem at n))

  -- ---- so they are the same
  read_renamed : (k p : ℕ) → Memᴰ p (blocks g labels f) → (w : Word) → ReadsBack k p w ↔ RenamedWord g labels k p w
  unfolding block_words words_within
  read_renamed zero p m w = ((λ n. n), (λ n. n))
  read_renamed (suc k) p m w =
      let renamed-of = made_of g labels (ReadsBack k) (RenamedWord g labels k) p (λ q u n. (read_renamed k q (child-block c f shallow p q m n) u).0) w in
      let Read-of = made_of g labels (RenamedWord g labels k) (ReadsBack k) p (λ q u n. (read_renamed k q (child-block c f shallow p q m n) u).1) w in (
        (λ n. made_renamed g labels k p w (renamed-of (read_made k p m w n))),
        (λ n. made-read k p m w (Read-of (renamed_made g labels k p w n))),
      )

  -- as many turns as there are nodes give all words from the start
  all_words : words_within kbwg (length nodes) g (start_node g (marks f).root) ≡ words kbwg g (start_node g (marks f).root)
  all_words =
      let s = start_node g (marks f).root in
      let d = shallow-closed g (blocks g labels f) (child-block c f shallow) 64 s (start-block c f shallow) shallow in
      words-within g c.fit.steps (length nodes) s (format-start-inside c f)
      (shallow-within g (length (blocks g labels f)) (length nodes) s (heads-few g labels f) d)

  -- block 0's words are those of the start's block
  pub start-read : (name : List ℕ) → macondo_words (macondo_file g labels f name)
      ≡ block_words_in g labels f (length nodes) (block_number g labels f (start_node g (marks f).root))
  start-read name = file-read c f name few ∙ sym (ap (block_words_in g labels f (length nodes)) (start-number g labels f))

  pub words-read : (name : List ℕ) (w : Word)
      → Memᴰ w (macondo_words (macondo_file g labels f name)) ↔ Memᴰ w (map (renamed_to_letters labels) (ending_in_letters g f))
  words-read name w =
      let s = start_node g (marks f).root in
      let n = length nodes in
      let same = read_renamed n s (start-block c f shallow) w in
      rw (start-read name) (subst (λ ws. ReadsBack n s w ↔ Memᴰ w (map (renamed_to_letters labels) (filtered word_ends_in_letter ws))) all_words same)
