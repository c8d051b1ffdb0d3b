-- The flat answer of words in play: how many are not, and the lowest of their numbers where there is one.
use Rattle.std.specs.Prelude.{Bool, true, false, List, [], ◌∷◌, ℕ}
use Rattle.answers.specs.Answers.{Answer, gives, nothing, refused, refusal_in, value_at}
use Rattle.in_play.specs.InPlay.{Played}
use Rattle.flat.specs.Flat.{plainly, value_in}
use Rattle.flat.specs.declared.playing.FlatInPlay.{FlatInPlay}

abbrev pub with_lowest : Bool → ℕ → ℕ → List ℕ
with_lowest true count lowest = count ∷ lowest ∷ []
with_lowest false count lowest = count ∷ []

abbrev pub play_of : FlatInPlay → Answer
play_of r = plainly r.refusal (gives (with_lowest r.found r.remaining r.lowest))

-- a call's answer, and the record that it leaves
abbrev pub played_of : FlatInPlay → List ℕ → Played
played_of r after = record { answer = play_of r; bits = after }

abbrev pub has_lowest : Answer → Bool
has_lowest (gives []) = false
has_lowest (gives (count ∷ [])) = false
has_lowest (gives (count ∷ lowest ∷ vs)) = true
has_lowest nothing = false
has_lowest (refused n vs) = false

abbrev pub flat_play : Answer → FlatInPlay
flat_play a = record { refusal = refusal_in a; found = has_lowest a; remaining = value_in a; lowest = value_at 1 a }
