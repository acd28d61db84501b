-- `subtract_patch`: 20 and 21 by `compare_sections`, 22 by `any_exceeds`; then the table is written, and what it no longer uses is cleared.
use Prim.Native.Nat.{ℕ, ◌-◌, ◌*◌, ◌≤◌}
use mathlib.Core.Path.{◌≡◌, sym, ap, ap₂, ◌∙◌}
use mathlib.Core.List.{List, ◌++◌}
use native.Mathlib.Omega.{arith}
use lib.ListN.{length, take, drop, replicate}
use Rattle.record.specs.Section.{Section, sections, written}
use Rattle.record.proofs.Sound.{sound_parts}
use Rattle.std.specs.Prelude.{Result}
use Rattle.refusal.specs.declared.Refusal.{Refusal}
use Rattle.refusal.specs.Outcome.{accepted}
use Rattle.refusal.specs.Answer.{outcome_of}
use Rattle.std.proofs.lemmas.Result.{err_from_is_err_and}
use mathlib.Core.Bool.{Bool, false}
use Rattle.table.proofs.State.{length-sections}
use Rattle.remove.specs.Calls.{zeroed}
use Rattle.remove.specs.Remaining.{remaining, too_few_rows, total_exceeds}
use Rattle.remove.specs.Steps.{compared_outcome}
use Rattle.remove.proofs.Remaining.{remaining-length}
use Rattle.remove.proofs.Sound.{vacated}
use Rattle.remove.proofs.Answers.{bad_sections, enough_rows, too_large, all_taken}
use Rattle.remove.proofs.subtract_patch.Goals as goal
use Rattle.remove.proofs.subtract_patch.Goals.{After-compare_sections, In_ok-compare_sections}

-- the sections of a table of g records in s, and ps of a patch
module _ (s : List ℕ) (g : ℕ) (ps : List Section) where
  abbrev left : List Section
  left = remaining (sections s g) ps

  left-fewer : length left ≤ g
  left-fewer = omega (arith, remaining-length (sections s g) ps, length-sections s g)

  -- the records that remain were written in s', and what they do not use was cleared
  cleared-as : {s' s'' : List ℕ} {k : ℕ} → k ≡ length left → s' ≡ written left s → s'' ≡ take (k * 64) s' ++ (replicate (g * 64 - k * 64) 0 ++ drop (g * 64) s') → s'' ≡ written left (zeroed g s)
  cleared-as p q zeros =
      zeros
      ∙ ap₂ (λ (m : ℕ) (x : List ℕ). take (m * 64) x ++ (replicate (g * 64 - m * 64) 0 ++ drop (g * 64) x)) p q
      ∙ vacated left s g left-fewer

-- where the sections were compared, and x is what came of it
compared : (c : After-compare_sections) (x : Result Unit Refusal) → c.compare_sections.result ≡ x
    → compared_outcome (sections c.args.table.now c.args.g) (sections c.args.patch.bytes.now c.args.patch.groups) ≡ outcome_of x
compared c x e =
    ap (λ (ts : List Section). compared_outcome ts (sections c.args.patch.bytes.now c.args.patch.groups)) (sym (ap₂ sections c.known-held.ensures.0 c.known-held.ensures.1))
    ∙ sym c.compare_sections.ensures ∙ ap outcome_of e

-- no section has fewer rows
module _ (c : In_ok-compare_sections) where
  abbrev ts : List Section
  ts = sections c.args.table.now c.args.g

  abbrev ps : List Section
  ps = sections c.args.patch.bytes.now c.args.patch.groups

  known-here : sections c.known-held.result.bytes.now c.known-held.result.groups ≡ ts
  known-here = ap₂ sections c.known-held.ensures.0 c.known-held.ensures.1

  passed : compared_outcome ts ps ≡ accepted tt
  passed =
      ap (λ (x : List Section). compared_outcome x ps) (sym known-here)
      ∙ sym c.compare_sections.ensures ∙ ap outcome_of c.in_ok-compare_sections.was

  enough-here : too_few_rows ts ps ≡ false
  enough-here = enough_rows c.args.table.now c.args.g ts ps passed

  exceeds-here : {b : Bool} → b ≡ total_exceeds (sections c.known-held.result.bytes.now c.known-held.result.groups) ps → b ≡ total_exceeds ts ps
  exceeds-here e = e ∙ ap (λ (x : List Section). total_exceeds x ps) known-here

pub known-held-requires : goal.known-held-requires
known-held-requires c = c.requires

pub any_exceeds-requires : goal.any_exceeds-requires
any_exceeds-requires c = ap (λ (x : List Section). too_few_rows x (ps c)) (known-here c) ∙ enough-here c

pub returns-then-any_exceeds : goal.returns-then-any_exceeds
returns-then-any_exceeds c =
    let h = (goal.at.returns-then-any_exceeds c).In_ok-compare_sections in
    too_large c.args.table.now c.args.g (ts h) (ps h) (passed h) (sym (exceeds-here h c.any_exceeds.ensures) ∙ c.if-any_exceeds.true)

pub keep_remaining-kept-requires : goal.keep_remaining-kept-requires
keep_remaining-kept-requires c =
    record { sound_table = c.requires; enough_rows = enough-here (goal.at.keep_remaining-kept-requires c).In_ok-compare_sections }

pub overflow_mul-kept : goal.overflow_mul-kept
overflow_mul-kept c =
    let a = c.args in
    omega (arith, left-fewer a.table.now a.g (sections a.patch.bytes.now a.patch.groups), (sound_parts a.table.now a.g c.requires).0, c.keep_remaining-kept.ensures.0)

pub overflow_mul-g : goal.overflow_mul-g
overflow_mul-g c = omega (arith, (sound_parts c.args.table.now c.args.g c.requires).0)

pub clear_part-requires : goal.clear_part-requires
clear_part-requires c =
    let a = c.args in
    let few = left-fewer a.table.now a.g (sections a.patch.bytes.now a.patch.groups) in
    (omega (arith, c.keep_remaining-kept.ensures.0), omega (arith, (sound_parts a.table.now a.g c.requires).0, c.keep_remaining-kept.auto.table))

pub returns : goal.returns
returns c =
    let h = (goal.at.returns c).In_ok-compare_sections in
    let k = c.keep_remaining-kept in
    all_taken c.args.table.now c.args.g (ts h) (ps h) (passed h) (sym (exceeds-here h c.any_exceeds.ensures) ∙ c.if-any_exceeds.false) k.result c.clear_part.new.s k.ensures.0
    (cleared-as c.args.table.now c.args.g (ps h) k.ensures.0 k.ensures.1 c.clear_part.ensures)

pub returns-in_err-compare_sections : goal.returns-in_err-compare_sections
returns-in_err-compare_sections c =
    let p = err_from_is_err_and c.from_residual.result c.from_residual.ensures.1 in
    rw (p.1, p.2)
    (bad_sections c.args.table.now c.args.g (sections c.args.table.now c.args.g) (sections c.args.patch.bytes.now c.args.patch.groups) _
    (compared (goal.at.returns-in_err-compare_sections c).After-compare_sections _ c.in_err-compare_sections.was))
