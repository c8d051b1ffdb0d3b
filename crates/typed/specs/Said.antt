-- What the answers of the calls say, and what the calls leave in the lent lists.
use Rattle.std.specs.Prelude.{◌≡◌, List, [], ◌∷◌, ◌++◌, ℕ, ◌-◌, length, take, drop, Option as Maybe, Some, None, Result, Ok, Err}
use Rattle.answers.specs.Answers.{Answer, gives, said_result, said_option}
use Rattle.typed.specs.Batches.{Batch, batch_answer}
use Rattle.typed.specs.Refusals.{typed_refusal}
use Rattle.typed.specs.declared.refusal.TypedRefusal.{TypedRefusal}
use Rattle.typed.specs.declared.next.TypedWord.{TypedWord}
use Rattle.typed.specs.declared.batch.TypedWords.{TypedWords}

-- how many tiles
abbrev pub said_typed : Result ℕ TypedRefusal → Answer
said_typed r = said_result (λ n. gives (n ∷ [])) typed_refusal r

abbrev pub word_given : TypedWord → Answer
word_given w = gives (w.start ∷ w.end ∷ w.after ∷ w.tiles ∷ [])

abbrev pub said_word : Result TypedWord TypedRefusal → Answer
said_word r = said_result word_given typed_refusal r

-- none at the end
abbrev pub said_next : Result (Maybe TypedWord) TypedRefusal → Answer
said_next r = said_result (said_option word_given) typed_refusal r

abbrev pub words_given : TypedWords → Answer
words_given w = gives (w.words ∷ w.tiles ∷ w.after ∷ [])

abbrev pub said_batch : Result (Maybe TypedWords) TypedRefusal → Answer
said_batch r = said_result (said_option words_given) typed_refusal r

-- "after 28 or 16 the tiles already put stay" (`Filled`); of several words: their tiles, then those of a refused line, and a number for each word
pub record BatchPut (batch : Batch) (tiles_before tiles_after sizes_before sizes_after : List ℕ) (said : Answer) : Type 0 where
  pub answer : said ≡ batch_answer batch
  pub tiles : let put = batch.tiles ++ batch.begun in tiles_after ≡ put ++ drop (length put) tiles_before
  pub sizes : sizes_after ≡ batch.sizes ++ drop (length batch.sizes) sizes_before

-- "the line handed out is that part of the caller's own text"
abbrev pub part_of : List ℕ → ℕ → ℕ → List ℕ
part_of text start end = take (end - start) (drop start text)

abbrev pub line_of : List ℕ → Maybe TypedWord → List ℕ
line_of text (Some w) = part_of text w.start w.end
line_of text None = []

abbrev pub line_handed : List ℕ → Result (Maybe TypedWord) TypedRefusal → List ℕ
line_handed text (Ok w) = line_of text w
line_handed text (Err e) = []
