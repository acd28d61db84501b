-- `remove_in`: the rows make the patch's own table in the work buffer, and that is taken out. The idea: an empty table is sound in any buffer, so what the rows make of it are
-- the patch's sections.
use Prim.Native.Nat.{ℕ, zero-le}
use mathlib.Core.Path.{◌≡◌, ap, ap₂, ◌∙◌, subst}
use mathlib.Core.List.{List, []}
use native.Mathlib.Omega.{arith}
use Rattle.lists.specs.Lists.{any_of}
use Rattle.columns.specs.Columns.{Row, rows_of}
use Rattle.record.specs.Section.{Section, sections}
use Rattle.record.proofs.Sound.{sound_parts}
use Rattle.table.proofs.State.{length-sections, sound-rising}
use Rattle.table.proofs.Accepted.{proper_none}
use Rattle.table.proofs.Lookup.{added-rising}
use Rattle.refusal.specs.Answer.{outcome_of}
use Rattle.table.specs.Combine.{added}
use Rattle.table.specs.Calls.{overflows}
use Rattle.std.specs.Prelude.{Option}
use Rattle.add.specs.Steps.{Adds}
use Rattle.remove.specs.Calls.{patch_sections}
use Rattle.remove.specs.Steps.{TakenOut}
use Rattle.remove.proofs.Fewer.{more_sections}
use Rattle.remove.proofs.Answers.{no_sections, too_few}
use Rattle.remove.proofs.remove_in.Goals as goal
use Rattle.remove.proofs.remove_in.Goals.{After-add_rows}

-- where the patch's table was made
module _ (a : After-add_rows) where
  abbrev rows : List Row
  rows = rows_of a.args.columns.kind a.args.columns.keys.now a.args.columns.values.now

  abbrev held : List Section
  held = sections a.args.table.now a.args.g

  abbrev patched : List Section
  patched = patch_sections a.args.columns.kind a.args.columns.keys.now a.args.columns.values.now

  -- x is what came of it
  made-here : (x : Option ℕ) → a.add_rows.result ≡ x → Adds rows a.args.g [] a.add_rows.new.t x
  made-here x e =
      subst (λ (y : Option ℕ). Adds rows a.args.g [] a.add_rows.new.t y) e
      (subst (λ (ts : List Section). Adds rows a.args.g ts a.add_rows.new.t a.add_rows.result) (no_sections a.args.work.now) a.add_rows.ensures)

pub add_rows-requires : goal.add_rows-requires
add_rows-requires c =
    let a = c.args.columns in
    let p = sound_parts c.args.table.now c.args.g c.requires.sound_table in
    record {
      sound_table = (proper_none c.args.work.now).is_sound_lem;
      within_room = (zero-le, omega (arith, p.0, p.1, c.requires.work_as_long));
      fit = c.requires.fit;
      no_overflow = ap (λ (ts : List Section). any_of overflows (added ts (rows_of a.kind a.keys.now a.values.now))) (no_sections c.args.work.now) ∙ c.requires.no_overflow;
    }

pub known-requires : goal.known-requires
known-requires c = (made-here (goal.at.known-requires c).After-add_rows _ c.in-Some.is).sound-table

pub returns-in-Some : goal.returns-in-Some
returns-in-Some c =
    let t = c.subtract_patch in
    let s = c.args in
    let h = (goal.at.returns-in-Some c).After-add_rows in
    subst (λ (ps : List Section). TakenOut s.table.now s.g (held h) ps (outcome_of t.result) t.new.table)
    (ap₂ sections c.known.ensures.0 c.known.ensures.1 ∙ (made-here h _ c.in-Some.is).held) t.ensures

pub returns-in-None : goal.returns-in-None
returns-in-None c =
    let s = c.args in
    let h = (goal.at.returns-in-None c).After-add_rows in
    too_few s.table.now s.g (held h) (patched h)
    (more_sections (held h) (patched h) (sound-rising s.table.now s.g c.requires.sound_table) (added-rising [] (rows h) tt)
    (omega (arith, length-sections s.table.now s.g, made-here h _ c.in-None.is)))
