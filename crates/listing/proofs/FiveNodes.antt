-- "For G: `0⇥1`, `1⇥1 2`, `2⇥2 2` (⇥ a tab)": the definitions, run on the five nodes of document 01.
use mathlib.Core.Path.{◌≡◌, refl}
use mathlib.Core.List.{[], ◌∷◌}
use Rattle.decimal.specs.Decimal.{decimal_within, decimal}
use Rattle.graph.specs.Runs.{run}
use Rattle.graph.specs.Words.{in_order, spelled, words_within, words}
use Rattle.listing.specs.Lines.{spaced, parted, line}
use Rattle.listing.specs.Wordlist.{start_words, listed, lists, printed}

five_nodes : printed (lists (0x240 ∷ 0x40 ∷ 0x481 ∷ 0x442 ∷ 0xC2 ∷ []))
    ≡ 0x30 ∷ 0x09 ∷ 0x31 ∷ 0x0A
    ∷ 0x31 ∷ 0x09 ∷ 0x31 ∷ 0x20 ∷ 0x32 ∷ 0x0A
    ∷ 0x32 ∷ 0x09 ∷ 0x32 ∷ 0x20 ∷ 0x32 ∷ 0x0A ∷ []
unfolding run in_order spelled words_within words decimal_within decimal spaced parted line start_words listed
five_nodes = refl
