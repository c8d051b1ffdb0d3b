-- The lines of `wordlist`, as bytes; from document 01, "Five nodes to check by".
use Rattle.std.specs.Prelude.{List, [], ◌∷◌, ◌++◌, ℕ}
use Rattle.decimal.specs.Decimal.{decimal}
use Rattle.graph.specs.Words.{Word}

-- each tile after a space
unfoldable pub spaced : Word → List ℕ
spaced [] = []
spaced (t ∷ w) = 0x20 ∷ decimal t ++ spaced w

-- "tiles parted by spaces"
unfoldable pub parted : Word → List ℕ
parted [] = []
parted (t ∷ w) = decimal t ++ spaced w

-- "number, tab, tiles parted by spaces. Every line ends in byte 0A hexadecimal."
unfoldable pub line : ℕ → Word → List ℕ
line number w = decimal number ++ (0x09 ∷ parted w) ++ 0x0A ∷ []

-- the bytes of `refused`, and a tab
abbrev pub refused_tab : List ℕ
refused_tab = 0x72 ∷ 0x65 ∷ 0x66 ∷ 0x75 ∷ 0x73 ∷ 0x65 ∷ 0x64 ∷ 0x09 ∷ []

-- "A refusal prints `refused`, tab, number"
unfoldable pub refusal_line : ℕ → List ℕ
refusal_line number = refused_tab ++ decimal number ++ 0x0A ∷ []
