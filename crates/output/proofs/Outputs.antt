-- What a call that was to write w leaves in the lent buffer out, by its outcome o.
use Prim.Native.Nat.{ℕ}
use mathlib.Core.Path.{◌≡◌, ap, ◌∙◌}
use mathlib.Core.List.{List, ◌++◌}
use lib.ListN.{length, take, drop}
use lib.Seq.{take_at, drop_at}
use Rattle.refusal.specs.Outcome.{Outcome, accepted, refused}
use Rattle.output.specs.Output.{output_leaves}

module _ {o : Outcome ℕ} (w out : List ℕ) where
  -- refused, the bytes that were there
  pub left-refused : {n : ℕ} → o ≡ refused n → output_leaves o w out ≡ out
  left-refused e = ap (λ (x : Outcome ℕ). output_leaves x w out) e

  module _ {n : ℕ} (e : o ≡ accepted n) where
    -- accepted, w and then those bytes
    pub left-accepted : output_leaves o w out ≡ w ++ drop (length w) out
    left-accepted = ap (λ (x : Outcome ℕ). output_leaves x w out) e

    -- so the first n bytes are w, where n is its length
    pub left_front : length w ≡ n → take n (output_leaves o w out) ≡ w
    left_front l = ap (take n) left-accepted ∙ take_at w (drop (length w) out) n l

    -- and the bytes after them stay as they were
    pub left_rest : length w ≡ n → drop n (output_leaves o w out) ≡ drop n out
    left_rest l = ap (drop n) left-accepted ∙ drop_at w (drop (length w) out) n l ∙ ap (λ (i : ℕ). drop i out) l
