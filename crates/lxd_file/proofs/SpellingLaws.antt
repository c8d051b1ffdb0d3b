-- Every file that the writer accepts spells the words from the start, each tile renamed to its label. The idea: the runs stand in the
-- file as copies whose letters are read back as the labels, and no chain of runs is longer than the file.
use Rattle.std.specs.Prelude.{◌≡◌, refl, ℕ, suc, get_or, drop}
use Rattle.std.proofs.Common.{sym, ◌∙◌, arith}
use Rattle.std.proofs.Math.Path.{ap}
use mathlib.Core.List.{List, ◌∷◌, ◌++◌, map, map-map, map-append, Memᴰ}
use Rattle.std.proofs.Math.Option.{Option, none, some}
use Rattle.std.proofs.Math.ListN.{length, length-map}
use Rattle.laws.specs.Lists.{none_left, drop-map}
use Rattle.laws.specs.Members.{join_in, map_same}
use Rattle.laws.proofs.SameLaws.{exact-number}
use Rattle.answers.specs.Answers.{first_of}
use Rattle.node.specs.Nodes.{kbwg, arc}
use Rattle.graph.specs.Runs.{Graph, run, start_node}
use Rattle.graph.specs.Words.{Word, in_order, spelled, words_within, words}
use Rattle.graph.specs.ChecksLaws.{start-inside}
use Rattle.export.specs.Starts.{run_of}
use Rattle.export.specs.BlocksLaws.{block-at}
use Rattle.export.specs.ChainLaws.{words-within}
use Rattle.windows1252.specs.Windows1252.{code_point_of}
use Rattle.lxd_file.specs.File.{lxd, runs, child, lxd_node, lxd_nodes, lxd_file, reached, run_size, run_place}
use Rattle.lxd_file.specs.Reading.{words_in, lxd_words}
use Rattle.lxd_file.specs.Row.{lxd_row}
use Rattle.lxd_file.proofs.RowLaws.{LxdAccepted, accepted, texts_accepted}
use Rattle.lxd_file.specs.Spelling.{words_spelled, renamed_to_labels, SpellsLxd}
use Rattle.lxd_file.specs.CopiedLaws.{run-copied, Copied, words_copied}
use Rattle.lxd_file.proofs.FileLaws.{file-title, file-date, file-nodes, file-node-count, file-word-count}
use Rattle.lxd_file.proofs.RunsLaws.{no-child, child-place, start-place, start_in_runs, ends-from}
use Rattle.lxd_file.proofs.RunsLaws.{runs-inside, runs-within, runs-end, arc_in_runs, place-within}
use Rattle.lxd_file.proofs.NodesLaws.{words_or_none, nodes-none, nodes-some, node-fields, lxd-nodes-below, lxd-nodes-few}

module _ (g : Graph) (labels : List ℕ) (ok : LxdAccepted g labels) where
  abbrev label : ℕ → Option ℕ
  label t = some (get_or labels t 0)

  abbrev copies : List ℕ
  copies = 0x8A800000 ∷ 0x8A800002 ∷ map (lxd_node g labels) (reached g)

  -- ---- a run of the graph stands in the file as its copy
  copy_at : (p : ℕ) → Memᴰ p (runs g) → (rest : List ℕ) × (drop (run_place g p) copies ≡ map (lxd_node g labels) (run_of g p) ++ rest)
  copy_at p m =
      let b = block-at exact-number (run_size g) (run_of g) (λ q. refl) (runs g) 2 p m in
      let e : run_place g p ≡ suc (suc b.0) = let x = b.2 in omega arith in
      let h = lxd_node g labels in
      (map h b.1, rw e (drop-map h b.0 (reached g) ∙ ap (map h) b.3 ∙ map-append h (run_of g p) b.1))

  run_at : (p : ℕ) → Memᴰ p (runs g) → run lxd (drop (run_place g p) copies) ≡ map (lxd_node g labels) (run_of g p)
  run_at p m =
      let c = copy_at p m in
      ap (run lxd) c.1
      ∙ run-copied kbwg lxd (lxd_node g labels) (drop p g) c.0 (ends-from g ok.sound.steps p (runs-inside g ok.sound p m))
      (λ v n. (node-fields g labels ok v (join_in (run_of g) (runs g) p v m n)).end_is)

  copied : Copied kbwg lxd g copies (runs g) (run_place g) (lxd_node g labels) code_point_of label
  copied =
      record {
        runs = run_at;
        tiles = λ v m. ap code_point_of (node-fields g labels ok v m).tile-is ∙ ok.bytes v m;
        flags = λ v m. (node-fields g labels ok v m).accepts-is;
        no-arc = λ v m z. (node-fields g labels ok v m).arc-is ∙ ap (child g) z ∙ no-child g;
        arcs = λ v m n.
            let i = arc_in_runs g ok.sound ok.ended v m n in
            let two = (place-within g ok.sound (arc kbwg v) i).0 in
            (i, (node-fields g labels ok v m).arc-is ∙ child-place g (arc kbwg v) n, λ z. omega arith);
      }

  -- ---- so the copies, read through the table, spell the words, and the nodes of a file with no words spell none
  -- a tile renamed to its label, which is a code point
  words-labelled : (ws : List Word) → map (map label) ws ≡ map (map some) (map (renamed_to_labels labels) ws)
  words-labelled ws =
      map_same (map label) (λ w. map some (renamed_to_labels labels w)) ws (λ w m. sym (map-map some (λ t. get_or labels t 0) w))
      ∙ sym (map-map (map some) (renamed_to_labels labels) ws)

  copies_spell : words_in copies ≡ map (map some) (words_spelled g labels)
  unfolding words
  copies_spell =
      let s = start_node g 0 in
      let n = length copies in
      let l = length-map (reached g) (lxd_node g labels) in
      let r = runs-within g ok.sound in
      ap (λ p. map (map code_point_of) (words_within lxd n copies p)) (sym (start-place g))
      ∙ words_copied kbwg lxd g copies (runs g) (run_place g) (lxd_node g labels) code_point_of label copied n s (start_in_runs g ok.sound ok.ended)
      ∙ ap (map (map label))
      (words-within g ok.sound.steps n s (start-inside ok.sound 0 (omega arith)) (runs-end g ok.sound ok.ended n (omega arith)))
      ∙ words-labelled (words kbwg g s)

  nodes_spell : words_in (lxd_nodes g labels) ≡ map (map some) (words_spelled g labels)
  unfolding words words_within in_order spelled run
  nodes_spell =
      words_or_none g
      (λ z. ap words_in (nodes-none g labels z)
      ∙ ap (λ ws. map (map some) (map (renamed_to_labels labels) ws)) (sym (none_left (words kbwg g (start_node g 0)) z)))
      (λ n. ap words_in (nodes-some g labels n) ∙ copies_spell)

-- every file that the writer accepts
pub lxd-spells : (g : Graph) (labels title date : List ℕ) (lent_work lent_file : ℕ) → first_of (lxd_row g labels title date lent_work lent_file) ≡ none
    → SpellsLxd (lxd_file g labels title date) title date (words_spelled g labels)
unfolding lxd_words
lxd-spells g labels title date lent_work lent_file e =
    let ok = accepted g labels title date lent_work lent_file e in
    let texts = texts_accepted g labels title date lent_work lent_file e in
    let nodes = file-nodes g labels title date (lxd-nodes-below g labels ok) in
    let few = lxd-nodes-few g labels ok in
    let most = ok.few in
    record {
      read = ap words_in nodes ∙ nodes_spell g labels ok;
      title-read = file-title g labels title date texts.0;
      date-read = file-date g labels title date texts.1;
      nodes-counted = file-node-count g labels title date (omega arith) ∙ sym (ap length nodes);
      words-counted = file-word-count g labels title date (omega arith) ∙ sym (length-map (words kbwg g (start_node g 0)) (renamed_to_labels labels));
    }
