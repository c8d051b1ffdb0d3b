-- A refusal that carries nothing is read back by its number, and no refusal by 0.
use Rattle.std.specs.Prelude.{◌≡◌, refl, Bool, true, false, [], ℕ, eqb}
use Rattle.std.proofs.Common.{sym, eqb-true}
use Rattle.answers.specs.Answers.{gives, refused, refusal_in}
use Rattle.flat.specs.Flat.{plainly}

plain_by : (n : ℕ) (b : Bool) → eqb n 0 ≡ b → refusal_in (elim b [ true ↦ gives [] | false ↦ refused n [] ]) ≡ n
plain_by n true t = sym (eqb-true n 0 t)
plain_by n false t = refl

pub plain_refusal : (n : ℕ) → refusal_in (plainly n (gives [])) ≡ n
plain_refusal n = plain_by n (eqb n 0) refl
