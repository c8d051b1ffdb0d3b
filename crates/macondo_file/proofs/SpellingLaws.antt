-- Every file that the writer accepts spells the words of its start node, renamed, less those ending in tile 0, each once, with the labels
-- as its code points. The idea: the words read have the same members, and neither list has repeats.
use Rattle.std.specs.Prelude.{◌≡◌, refl, false, ◌↔◌, ℕ, ◌^◌, ◌≤◌, ◌<◌, length, drop}
use Rattle.std.proofs.Common.{sym, ap, ap₂, ◌∙◌}
use Rattle.std.proofs.Math.Option.{none}
use mathlib.Core.List.Memᴰ
use mathlib.Core.List.{List, [], ◌∷◌, map, Memᴰ}
use Rattle.std.proofs.lemmas.List.{length-map}
use Rattle.laws.specs.Lists.{All, some_of}
use Rattle.laws.specs.Members.{in_map, map_in}
use Rattle.laws.specs.NoRepeats.{same_length}
use Rattle.answers.specs.Answers.{first_of}
use Rattle.graph.specs.Runs.{Graph, start_node}
use Rattle.graph.specs.Words.{Word}
use Rattle.export.specs.Starts.{deeper}
use Rattle.macondo_file.specs.Alphabet.{code_point}
use Rattle.macondo_file.specs.File.{Format, marks, macondo_nodes, macondo_file}
use Rattle.macondo_file.specs.Reading.{macondo_words, code_point_in, words_in_code_points}
use Rattle.macondo_file.specs.Row.{no_code_point, macondo_row}
use Rattle.macondo_file.specs.RowLaws.{MacondoReady, accepted-checks, accepted-walk}
use Rattle.macondo_file.proofs.ReadingLaws.{letter-count-read, length-read, labels-read, tile-read}
use Rattle.macondo_file.proofs.WordLaws.{words-read}
use Rattle.macondo_file.proofs.OnceLaws.{words-once, spelled-labelled, renamed_once}
use Rattle.macondo_file.specs.Spelling.{renamed_to_letters, ending_in_letters, SpellsMacondo}

module _ {g : Graph} {labels : List ℕ} (c : MacondoReady g labels) (f : Format) (name : List ℕ) where
  abbrev file : List ℕ
  file = macondo_file g labels f name

  word-shown : some_of no_code_point (drop 1 labels) ≡ false → (u : Word) → All (λ t. t < length labels) u
      → map (code_point_in file) (renamed_to_letters labels u) ≡ map (code_point labels) u
  word-shown ok [] a = refl
  word-shown ok (t ∷ u) a = ap₂ ◌∷◌ (tile-read c f name ok t a.0) (word-shown ok u a.1)

  module _ (few : length (macondo_nodes g labels f) ≤ 2 ^ 24) (shallow : deeper g 64 (start_node g (marks f).root) ≡ false) where
    words-shown : some_of no_code_point (drop 1 labels) ≡ false → (w : Word)
        → Memᴰ w (words_in_code_points file) ↔ Memᴰ w (map (map (code_point labels)) (ending_in_letters g f))
    words-shown ok w =
        let ws = ending_in_letters g f in (
          (λ m.
              let x = in_map (map (code_point_in file)) (macondo_words file) w m in
              let u = in_map (renamed_to_letters labels) ws x.0 ((words-read c f few shallow name x.0).0 x.1) in
              let e = x.2 ∙ ap (map (code_point_in file)) u.2 ∙ word-shown ok u.0 (spelled-labelled c f u.0 u.1) in
              Memᴰ.cast e (map_in (map (code_point labels)) ws u.0 u.1)),
          (λ m.
              let u = in_map (map (code_point labels)) ws w m in
              let e = u.2 ∙ sym (word-shown ok u.0 (spelled-labelled c f u.0 u.1)) in
              let x = (words-read c f few shallow name (renamed_to_letters labels u.0)).1 (map_in (renamed_to_letters labels) ws u.0 u.1) in
              Memᴰ.cast e (map_in (map (code_point_in file)) (macondo_words file) (renamed_to_letters labels u.0) x)),
        )

    as_many : length (macondo_words file) ≡ length (ending_in_letters g f)
    as_many =
        let ws = ending_in_letters g f in
        same_length (macondo_words file) (map (renamed_to_letters labels) ws) (words-once c f few shallow name) (renamed_once c f)
        (words-read c f few shallow name)
        ∙ length-map ws (renamed_to_letters labels)

-- every file that the writer accepts
pub macondo-spells : (g : Graph) (labels name : List ℕ) (f : Format) (lent_work lent_file : ℕ) → first_of (macondo_row g labels name f lent_work lent_file) ≡ none
    → SpellsMacondo (macondo_file g labels f name) labels (ending_in_letters g f)
macondo-spells g labels name f lent_work lent_file e =
    let c = (accepted-checks g labels name f lent_work lent_file e).ready in
    let a = accepted-walk g labels name f lent_work lent_file e in
    record {
      read = words-read c f a.few a.shallow name;
      no_repeats = words-once c f a.few a.shallow name;
      as_many = as_many c f name a.few a.shallow;
      labels-read = labels-read c f name a.code_points;
      shown = words-shown c f name a.few a.shallow a.code_points;
      letter-count-read = letter-count-read c f name;
      length-read = length-read c f name a.few;
    }
