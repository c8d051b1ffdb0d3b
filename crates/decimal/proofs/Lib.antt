-- What the proofs of `put_digits` and `put_number` use.
mod PutLaws
