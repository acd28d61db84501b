-- What removing a patch does to the sections of a table. The patch's own sections are those that its rows make in an empty table.
use Rattle.std.specs.Prelude.{ℕ, ◌-◌, ◌*◌, Bool, true, false, cond, ◌||◌, List, [], ◌∷◌, map, ltb, eqb, ℤ, ◌-ℤ◌, nat_abs}
use Rattle.std.proofs.Math.Option.{Option, none, some}
use Rattle.lists.specs.Lists.{any_of}
use Rattle.level.specs.Level.{level_bound}
use Rattle.record.specs.Section.{Section, section_at, find}
use Rattle.table.specs.Combine.{level_of}

-- the total of section t at level j without what section p holds there
abbrev pub without_at : Section → Section → ℕ → ℤ
without_at t p j = level_of t j -ℤ level_of p j

-- a held section t without the patch's section p: p's count and p's totals at t's levels are taken off; the held top and finest power stay
unfoldable pub without : Section → Section → Section
without t p = section_at t.key (t.count - p.count) t.top t.finest (without_at t p)

-- a held section without what the patch has for it, if anything
unfoldable pub without_if : Section → Option Section → Section
without_if t none = t
without_if t (some p) = without t p

-- the held sections ts without those of the patch
unfoldable pub all_without : List Section → List Section → List Section
all_without ts ps = map (λ (t : Section). without_if t (find t.key ps)) ts

-- the sections with a row
unfoldable pub with_rows : List Section → List Section
with_rows [] = []
with_rows (t ∷ ts) = cond (eqb t.count 0) (with_rows ts) (t ∷ with_rows ts)

-- the sections that remain: those left with no rows go
unfoldable pub remaining : List Section → List Section → List Section
remaining ts ps = with_rows (all_without ts ps)

-- ---- the conditions of 20, 21 and 22

-- a held section, or none, has fewer rows than the patch's section p
unfoldable pub has_fewer : Option Section → Section → Bool
has_fewer none p = true
has_fewer (some t) p = ltb t.count p.count

-- a held section has a smaller top than the patch's section p
unfoldable pub has_lower : Option Section → Section → Bool
has_lower none p = false
has_lower (some t) p = ltb t.top p.top

-- a total of the section is larger in size than n × 2^39
abbrev pub exceeds_for : ℕ → Section → Bool
exceeds_for n t = ltb (n * level_bound) (nat_abs t.high) || (ltb (n * level_bound) (nat_abs t.middle) || ltb (n * level_bound) (nat_abs t.low))

-- a total of the section is larger in size than its rows × 2^39
unfoldable pub exceeds : Section → Bool
exceeds t = exceeds_for t.count t

-- 20: a section of the patch ps is absent, or has fewer rows than the patch has for it
abbrev pub too_few_rows : List Section → List Section → Bool
too_few_rows ts ps = any_of (λ (p : Section). has_fewer (find p.key ts) p) ps

-- 21: the patch's top for a section exceeds the held one, so that an add of the patch would raise that
abbrev pub raises_top : List Section → List Section → Bool
raises_top ts ps = any_of (λ (p : Section). has_lower (find p.key ts) p) ps

-- 22: a remaining total would be larger in size than the remaining rows × 2^39; so a section left with no rows holds 0
abbrev pub total_exceeds : List Section → List Section → Bool
total_exceeds ts ps = any_of exceeds (all_without ts ps)

-- ---- what the law of undoing asks beside 21

-- a held section has a larger finest power than the patch's section p
unfoldable pub has_larger : Option Section → Section → Bool
has_larger none p = false
has_larger (some t) p = ltb p.finest t.finest

-- an add of the patch would lower a held finest power
abbrev pub lowers_finest : List Section → List Section → Bool
lowers_finest ts ps = any_of (λ (p : Section). has_larger (find p.key ts) p) ps
