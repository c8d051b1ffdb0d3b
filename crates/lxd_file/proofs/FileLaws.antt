-- A written file read back: its length, the texts and the two numbers of its header, and its nodes.
use Rattle.std.specs.Prelude.{◌≡◌, refl, false, ℕ, zero, suc, ◌+◌, ◌*◌, ◌^◌, ◌<◌, length, take, drop, replicate}
use Rattle.std.proofs.Common.{sym, ap₂, ◌∙◌, length-take, drop-drop, take_at}
use Rattle.std.proofs.Math.Path.{ap}
use mathlib.Core.List.{List, ◌∷◌, ◌++◌, map, map-map, map-append, append_assoc, Memᴰ}
use Rattle.std.proofs.Math.Option.{some}
use native.Mathlib.Omega.{arith}
use Rattle.std.proofs.Math.ListN.{get_or, length-append}
use Rattle.std.proofs.lemmas.List.{length-replicate}
use Rattle.std.proofs.Math.Seq.{drop_at}
use Rattle.laws.specs.Lists.{some_of, take-map}
use Rattle.laws.specs.Members.{none_of, map_same}
use Rattle.endian.specs.Bytes.{to_bytes, node_bytes, whole_nodes}
use Rattle.endian.proofs.BytesLaws.{number_read, numbers-read, length-numbers}
use Rattle.node.specs.Nodes.{kbwg}
use Rattle.graph.specs.Runs.{Graph, start_node}
use Rattle.graph.specs.Words.{count}
use Rattle.windows1252.specs.Windows1252.{code_point_of, no_byte, byte_written}
use Rattle.windows1252.proofs.Windows1252Laws.{reads-back}
use Rattle.lxd_file.specs.File.{filled, field, header, lxd_nodes, lxd_file}
use Rattle.lxd_file.specs.Reading.{nodes_read, text_at, title_read, date_read, node_count, word_count}

pub length-field : (size : ℕ) (text : List ℕ) → length (field size text) ≡ size
length-field size text =
    let a = length-replicate {A = ℕ} size 0 in
    let b = length-append (map byte_written text) (replicate size 0) in
    rw length-take (omega arith)

pub length-header : (nodes : ℕ) (title date : List ℕ) (words : ℕ) → length (header nodes title date words) ≡ 64
length-header nodes title date words =
    let a = length-field 32 title in
    let b = length-field 20 date in
    simp length-append (omega arith)

-- ---- a field read through the table
zeros-read : (n : ℕ) → map code_point_of (replicate n 0) ≡ map some (replicate n 0)
unfolding code_point_of
zeros-read zero = refl
zeros-read (suc n) = ap (some 0 ∷◌) (zeros-read n)

bytes_read : (size : ℕ) (text : List ℕ) → some_of no_byte text ≡ false → map code_point_of (field size text) ≡ map some (filled size text)
bytes_read size text e =
    let zeros : List ℕ = replicate size 0 in
    let letters : map code_point_of (map byte_written text) ≡ map some text =
    map-map code_point_of byte_written text ∙ map_same (λ c. code_point_of (byte_written c)) some text (λ c m. reads-back c (none_of no_byte text e c m)) in
    sym (take-map code_point_of size (map byte_written text ++ zeros))
    ∙ ap (take size) (map-append code_point_of (map byte_written text) zeros ∙ ap₂ ◌++◌ letters (zeros-read size) ∙ sym (map-append some text zeros))
    ∙ take-map some size (text ++ zeros)

-- a text that stands at a place of the file
text-read : (file rest : List ℕ) (at size : ℕ) (text : List ℕ) → drop at file ≡ field size text ++ rest → some_of no_byte text ≡ false
    → text_at at size file ≡ map some (filled size text)
text-read file rest at size text e has =
    ap (λ l. map code_point_of (take size l)) e ∙ ap (map code_point_of) (take_at (field size text) rest size (length-field size text)) ∙ bytes_read size text has

module _ (g : Graph) (labels title date : List ℕ) where
  abbrev file : List ℕ
  file = lxd_file g labels title date

  abbrev nodes : List ℕ
  nodes = lxd_nodes g labels

  abbrev words_from_start : ℕ
  words_from_start = count kbwg g (start_node g 0)

  pub length-file : length file ≡ 64 + 4 * length nodes
  unfolding lxd_file
  length-file =
      let a = length-header (length nodes) title date words_from_start in
      let b = length-numbers nodes in
      length-append (header (length nodes) title date words_from_start) (node_bytes nodes) ∙ omega arith

  -- ---- what stands at the title and the date, after them, and after the header
  abbrev after_date : List ℕ
  after_date = to_bytes words_from_start ++ node_bytes nodes

  from-title : drop 8 file ≡ field 32 title ++ (field 20 date ++ after_date)
  unfolding lxd_file
  from-title =
      let b = field 20 date in
      let c = to_bytes words_from_start in
      append_assoc (field 32 title) (b ++ c) (node_bytes nodes) ∙ ap (field 32 title ++◌) (append_assoc b c (node_bytes nodes))

  from-date : drop 40 file ≡ field 20 date ++ after_date
  from-date = sym (drop-drop 32 8 file) ∙ ap (drop 32) from-title ∙ drop_at (field 32 title) (field 20 date ++ after_date) 32 (length-field 32 title)

  after-date : drop 60 file ≡ after_date
  after-date = sym (drop-drop 20 40 file) ∙ ap (drop 20) from-date ∙ drop_at (field 20 date) after_date 20 (length-field 20 date)

  after-header : drop 64 file ≡ node_bytes nodes
  unfolding lxd_file
  after-header =
      drop_at (header (length nodes) title date words_from_start) (node_bytes nodes) 64 (length-header (length nodes) title date words_from_start)

  -- ---- what is read
  pub file-title : some_of no_byte title ≡ false → title_read file ≡ map some (filled 32 title)
  file-title = text-read file _ 8 32 title from-title

  pub file-date : some_of no_byte date ≡ false → date_read file ≡ map some (filled 20 date)
  file-date = text-read file _ 40 20 date from-date

  pub file-nodes : ((v : ℕ) → Memᴰ v nodes → v < 2 ^ 32) → nodes_read file ≡ nodes
  file-nodes h = ap whole_nodes after-header ∙ numbers-read nodes h

  pub file-node-count : length nodes < 2 ^ 32 → node_count file ≡ length nodes
  unfolding lxd_file
  file-node-count h = ap (λ l. get_or l 0 0) (number_read (length nodes) _ h)

  pub file-word-count : words_from_start < 2 ^ 32 → word_count file ≡ words_from_start
  file-word-count h = ap (λ l. get_or (whole_nodes l) 0 0) after-date ∙ ap (λ l. get_or l 0 0) (number_read words_from_start (node_bytes nodes) h)
