-- `binary_search`: the number of keys below the one looked for lies between lo and lo + n, and each step halves n.
use Prim.Native.Nat.{ℕ, ◌+◌, ◌-◌, ◌*◌, ◌/◌, ◌≤◌, ◌<◌, zero-le}
use mathlib.Core.Path.{◌≡◌, refl, sym, ◌∙◌}
use mathlib.Core.List.{List}
use mathlib.Core.Bool.{Bool, true, false, cond}
use mathlib.Core.Logic.{◌⊎◌, inl, inr, ⊎_elim}
use native.Mathlib.Omega.{arith}
use borrow.Author.Tests.{ltb-true, ltb-false}
use lib.ListN.{length, get_or}
use lib.Dec.{T, ltb}
use Rattle.codec.specs.Bytes.{number_at}
use Rattle.record.specs.Layout.{records}
use Rattle.record.specs.Keys.{record_keys, rising, count_below, place}
use Rattle.std.specs.Prelude.{Ok, Err}
use Rattle.record.proofs.Laws.{get_d_keys, length-keys}
use Rattle.record.proofs.Order.{below-le, below-lt, below_ge, place_at, place_gap}
use Rattle.record.proofs.binary_search.Goals as goal
use Rattle.record.proofs.binary_search.Goals.{After-is_below, Start, else-lo-g-via-then-lo-g+else-read-key, else-lo-g-via-else-lo-g}

-- what the key at a record says of the place; v is that key as it was read
module _ (s : List ℕ) (g key : ℕ) (pre : (g * 64 ≤ length s) × T (rising (record_keys (records s g)))) (i v : ℕ) (e : v ≡ number_at 4 s (i * 64)) where
  key-read : i < g → get_or (record_keys (records s g)) i 0 ≡ v
  key-read h = get_d_keys s g pre.0 i h ∙ sym e

  in-keys : i < g → i < length (record_keys (records s g))
  in-keys h = rw length-keys h

  count_past : i < g → v < key → i < count_below key (record_keys (records s g))
  count_past h l = below-lt key (record_keys (records s g)) pre.1 i (in-keys h) (rw (key-read h) l)

  count-within : i < g → key ≤ v → count_below key (record_keys (records s g)) ≤ i
  count-within h l = below_ge key (record_keys (records s g)) pre.1 i (in-keys h) (rw (key-read h) l)

  index-here : i < g → i ≡ count_below key (record_keys (records s g)) → v ≡ key → Ok i ≡ place key (record_keys (records s g))
  index-here h b q = place_at key (record_keys (records s g)) i b (in-keys h) (key-read h ∙ q)

  gap_here : i < g → i ≡ count_below key (record_keys (records s g)) → (v ≡ key → ⊥) → Err i ≡ place key (record_keys (records s g))
  gap_here h b n = place_gap key (record_keys (records s g)) pre.1 i b (λ l q. n (sym (key-read h) ∙ q))

past_all : (s : List ℕ) (g key : ℕ) → T (rising (record_keys (records s g))) → (i : ℕ) → i ≡ count_below key (record_keys (records s g)) → g ≤ i → Err i ≡ place key (record_keys (records s g))
past_all s g key up i b h = place_gap key (record_keys (records s g)) up i b (λ l q. omega (arith, length-keys s g))

-- a step goes up by half the records, or by none
chosen : (h v key b : ℕ) → b ≡ cond (ltb v key) 1 0 → ((v < key) × (h * b ≡ h)) ⊎ ((key ≤ v) × (h * b ≡ 0))
chosen h v key b e = by (ltb v key) refl e
  where
    by : (t : Bool) → ltb v key ≡ t → b ≡ cond t 1 0 → ((v < key) × (h * b ≡ h)) ⊎ ((key ≤ v) × (h * b ≡ 0))
    by true q e = inl (ltb-true v key q, rw e (omega arith))
    by false q e = inr (ltb-false v key q, rw e (omega arith))

-- where the key in the middle was compared
module _ (c : After-is_below) where
  abbrev half : ℕ
  half = (c.loop-n.n + 1) / 2

  chosen-here : ((c.read.result < c.args.key) × (half * c.is_below.result ≡ half)) ⊎ ((c.args.key ≤ c.read.result) × (half * c.is_below.result ≡ 0))
  chosen-here = chosen half c.read.result c.args.key c.is_below.result c.is_below.ensures

step_fits : (c : After-is_below) → half c * c.is_below.result ≤ half c
step_fits c = ⊎_elim (λ w. omega arith) (λ w. omega arith) (chosen-here c)

pub loop-n-init : goal.loop-n-init
loop-n-init c =
    let a = c.args in
    (zero-le, omega (arith, below-le a.key (record_keys (records a.t.now a.g)), length-keys a.t.now a.g), omega arith)

pub loop-n-preserved : goal.loop-n-preserved
loop-n-preserved c =
    let l = c.loop-n in
    let m = l.lo + half (goal.at.loop-n-preserved c).After-is_below - 1 in
    let u = c.read in
    ⊎_elim
    (λ w. omega (arith, count_past c.args.t.now c.args.g c.args.key c.requires m u.result u.ensures (omega arith) w.0))
    (λ w. omega (arith, count-within c.args.t.now c.args.g c.args.key c.requires m u.result u.ensures (omega arith) w.0))
    (chosen-here (goal.at.loop-n-preserved c).After-is_below)

pub returns-then-read-key : goal.returns-then-read-key
returns-then-read-key c =
    let u = c.read-then-lo-g in
    index-here c.args.t.now c.args.g c.args.key c.requires c.loop-n.lo u.result u.ensures (omega arith) (omega arith) c.if-read-key.true

pub returns : goal.returns
returns c = elim c.else-lo-g.branch [
  | else-lo-g-via-then-lo-g+else-read-key w ↦
      let u = w.read-then-lo-g in
      gap_here c.args.t.now c.args.g c.args.key c.requires c.loop-n.lo u.result u.ensures (omega arith) (omega arith) w.if-read-key.false
  | else-lo-g-via-else-lo-g w ↦ past_all c.args.t.now c.args.g c.args.key c.requires.1 c.loop-n.lo (omega arith) w.if-lo-g.false
]

pub overflow_mul-lo-in-loop-n : goal.overflow_mul-lo-in-loop-n
overflow_mul-lo-in-loop-n c = omega (arith, step_fits (goal.at.overflow_mul-lo-in-loop-n c).After-is_below)

pub overflow_add-lo-in-loop-n : goal.overflow_add-lo-in-loop-n
overflow_add-lo-in-loop-n c = omega (arith, step_fits (goal.at.overflow_add-lo-in-loop-n c).After-is_below)
