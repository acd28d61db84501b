-- `absorb_record` combines at the place of the key, or inserts in its gap. The idea: what `locate` gives is the place of which the laws of a record brought in
-- speak (`place_here`), so each branch is one of their two cases.
use Prim.Native.Nat.{ℕ, ◌^◌, ◌<◌}
use mathlib.Core.Path.{◌≡◌, sym, ◌∙◌}
use native.Mathlib.Omega.{arith}
use borrow.Author.Rules.{rules}
use Rattle.std.specs.Prelude.{Result}
use Rattle.record.specs.Layout.{records}
use Rattle.record.specs.Keys.{record_keys, place}
use Rattle.record.proofs.Sound.{sound_parts}
use Rattle.table.proofs.State.{section_proper}
use Rattle.table.proofs.Accepted.{proper_bytes}
use Rattle.absorb.proofs.Absorbing.{Absorbable, at_below, at_old, at_count, at_holds, gap_within, gap_length, gap_holds}
use Rattle.absorb.proofs.absorb_record.Goals as goal
use Rattle.absorb.proofs.absorb_record.Goals.{After-locate}

-- where the key was looked up
module _ (c : After-locate) where
  absorbable-here : Absorbable c.args.t.now c.args.so_far.groups c.args.room c.args.r.raw
  absorbable-here = record {
    table = proper_bytes c.args.t.now c.args.so_far.groups (λ n. (c.slice_known-1.given n).fits) c.requires.sound_table;
    sound_new = c.args.r.sound;
    room_fits = c.requires.within_room.1;
    proper = section_proper c.args.r.raw (let f : c.args.r.raw.key < 2 ^ 32 = search rules in f) c.args.r.sound;
    no_overflow = c.requires.no_overflow;
  }

  place_here : (p : Result ℕ ℕ) → c.locate.result ≡ p → p ≡ place c.args.r.raw.key (record_keys (records c.args.t.now c.args.so_far.groups))
  place_here p e = sym e ∙ c.locate.ensures

pub locate-requires : goal.locate-requires
locate-requires c = let p = sound_parts c.args.t.now c.args.so_far.groups c.requires.sound_table in (p.0, p.2)

pub combine_at-requires : goal.combine_at-requires
combine_at-requires c =
    let i = c.in-Ok in
    let h = (goal.at.combine_at-requires c).After-locate in
    let e = place_here h _ i.is in
    record {
      in_bounds = omega (arith, (sound_parts c.args.t.now c.args.so_far.groups c.requires.sound_table).0, at_below (absorbable-here h) i.i e);
      old_sound = at_old (absorbable-here h) i.i e;
      few_together = at_count (absorbable-here h) i.i e;
    }

pub insert-requires : goal.insert-requires
insert-requires c =
    let i = c.in-Err in
    let h = (goal.at.insert-requires c).After-locate in
    (omega (arith, gap_within (absorbable-here h) i.i (place_here h _ i.is)), omega arith)

pub returns-then-groups-room : goal.returns-then-groups-room
returns-then-groups-room c =
    let i = c.in-Err in
    let h = (goal.at.returns-then-groups-room c).After-locate in
    gap_holds (absorbable-here h) i.i (place_here h _ i.is) c.insert.new.t c.insert.auto.t (omega arith) c.insert.ensures

pub returns-in-Ok : goal.returns-in-Ok
returns-in-Ok c =
    let i = c.in-Ok in
    let h = (goal.at.returns-in-Ok c).After-locate in
    at_holds (absorbable-here h) i.i (place_here h _ i.is) c.combine_at.new.t c.combine_at.auto.t c.requires.within_room.0 c.combine_at.ensures

pub returns-else-groups-room : goal.returns-else-groups-room
returns-else-groups-room c =
    let i = c.in-Err in
    let h = (goal.at.returns-else-groups-room c).After-locate in
    omega (arith, gap_length (absorbable-here h) i.i (place_here h _ i.is))
