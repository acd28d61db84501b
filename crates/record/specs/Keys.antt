-- The order of a table's keys, and the place of a key among them.
use Rattle.std.specs.Prelude.{ℕ, suc, Bool, true, false, cond, ◌&&◌, ◌||◌, List, [], ◌∷◌, map, ltb, eqb}
use Rattle.record.specs.declared.Record.{Record}
use Rattle.std.specs.Prelude.{Result}
use Rattle.std.specs.Prelude.{Ok, Err}

-- the keys of records
abbrev pub record_keys : List Record → List ℕ
record_keys rs = map (λ (r : Record). r.key) rs

-- each key is smaller than the next one
unfoldable pub rising : List ℕ → Bool
rising [] = true
rising (x ∷ []) = true
rising (x ∷ y ∷ ys) = ltb x y && rising (y ∷ ys)

-- how many keys are smaller than k
unfoldable pub count_below : ℕ → List ℕ → ℕ
count_below k [] = 0
count_below k (x ∷ xs) = cond (ltb x k) (suc (count_below k xs)) (count_below k xs)

-- k is one of the keys
unfoldable pub has : ℕ → List ℕ → Bool
has k [] = false
has k (x ∷ xs) = eqb x k || has k xs

-- where k stands, or would have to stand
abbrev pub place : ℕ → List ℕ → Result ℕ ℕ
place k ks = cond (has k ks) (Ok (count_below k ks)) (Err (count_below k ks))
