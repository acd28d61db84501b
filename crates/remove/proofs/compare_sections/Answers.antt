-- `compare_sections`: no section before i lacks rows, so those from i on decide 20; whether one of those before i raises a top is noted.
use Prim.Native.Nat.{ℕ, ◌*◌, ◌≤◌, ◌<◌}
use mathlib.Core.Path.{◌≡◌, refl, sym, ap, ap₂, ◌∙◌, subst}
use mathlib.Core.Bool.{Bool, cond}
use mathlib.Core.List.{List}
use mathlib.Core.Option.{Option}
use native.Mathlib.Omega.{arith}
use lib.Dec.{T}
use lib.ListN.{length, get_or}
use Rattle.refusal.specs.Outcome.{accepted, refused}
use Rattle.lists.proofs.Scanning.{Undecided, scan_found, scan_next, scan_end, Noted, note_next, note_end}
use Rattle.record.specs.Layout.{record_at}
use Rattle.record.specs.Sound.{sound}
use Rattle.record.specs.Section.{Section, meaning, sections, find}
use Rattle.record.proofs.Laws.{get_d_sections}
use Rattle.record.proofs.Sound.{sound_parts}
use Rattle.table.proofs.State.{length-sections}
use Rattle.remove.specs.Remaining.{has_fewer, has_lower, raises_top}
use Rattle.std.specs.Prelude as prelude
use Rattle.remove.specs.declared.Enough.{Enough}
use Rattle.remove.specs.Steps.{Stands, compared_outcome}
use Rattle.remove.proofs.compare_sections.Goals as goal

abbrev fewer : List Section → Section → Bool
fewer ts p = has_fewer (find p.key ts) p

abbrev lower : List Section → Section → Bool
lower ts p = has_lower (find p.key ts) p

-- where x is how a section stands
stands_as : (o : Option Section) (t : Section) {r x : prelude.Option Enough} → r ≡ x → Stands o t r → Stands o t x
stands_as o t e h = subst (λ (y : prelude.Option Enough). Stands o t y) e h

-- the section i of a patch of n sections in s
module _ (s : List ℕ) (n i : ℕ) (sd : T (sound s n)) (h : i < n) where
  abbrev here : Section
  here = meaning (record_at s (i * 64))

  in_list : i < length (sections s n)
  in_list = rw (length-sections s n) h

  is-here : get_or (sections s n) i here ≡ here
  is-here = get_d_sections s n (sound_parts s n sd).0 i (record_at s (i * 64)) h

-- all were compared with the sections ts: none lacks rows, and f is what was noted of the tops
answered : (ts : List Section) (s : List ℕ) (n i : ℕ) {noted f : Bool} → n ≤ i → Undecided (fewer ts) (sections s n) i → Noted (lower ts) (sections s n) i noted → noted ≡ f
    → cond f (refused 21) (accepted tt) ≡ compared_outcome ts (sections s n)
answered ts s n i {noted} h u t e =
    let ps = sections s n in
    let all : length ps ≤ i = omega (arith, length-sections s n) in
    sym (ap₂ (λ (a b : Bool). cond a (refused 20) (cond b (refused 21) (accepted tt))) (sym (scan_end (fewer ts) ps i u all)) (note_end (lower ts) ps i noted t all ∙ e))

pub loop-i-init : goal.loop-i-init
loop-i-init c = record { none_fewer = refl; lower_noted = refl }

pub returns-in_default : goal.returns-in_default
returns-in_default c =
    let t = c.args.t in
    let p = c.args.patch in
    let ts = sections t.bytes.now t.groups in
    let s = p.bytes.now in
    let ps = sections s p.groups in
    let i = c.loop-i.i in
    let h : i < p.groups = omega arith in
    ap (λ (b : Bool). cond b (refused 20) (cond (raises_top ts ps) (refused 21) (accepted tt)))
    (scan_found (fewer ts) ps i c.loop-i.invariant.none_fewer (here s p.groups i p.sound h) (in_list s p.groups i p.sound h) (ap (fewer ts) (is-here s p.groups i p.sound h))
    (stands_as (find (here s p.groups i p.sound h).key ts) (here s p.groups i p.sound h) c.in_default.is c.compare_section.ensures))

pub loop-i-preserved : goal.loop-i-preserved
loop-i-preserved c =
    let t = c.args.t in
    let p = c.args.patch in
    let ts = sections t.bytes.now t.groups in
    let s = p.bytes.now in
    let ps = sections s p.groups in
    let i = c.loop-i.i in
    let h : i < p.groups = omega arith in
    let d = here s p.groups i p.sound h in
    let l = in_list s p.groups i p.sound h in
    let e = is-here s p.groups i p.sound h in
    let w = stands_as (find d.key ts) d c.in-Some.is c.compare_section.ensures in
    record {
      none_fewer = scan_next (fewer ts) ps i c.loop-i.invariant.none_fewer d l (ap (fewer ts) e) w.0;
      lower_noted = note_next (lower ts) ps i c.loop-i.any_too_low c.loop-i.invariant.lower_noted d l (ap (lower ts) e ∙ w.1);
    }

pub returns-then-any_too_low : goal.returns-then-any_too_low
returns-then-any_too_low c =
    let t = c.args.t in
    answered (sections t.bytes.now t.groups) c.args.patch.bytes.now c.args.patch.groups c.loop-i.i (omega arith) c.loop-i.invariant.none_fewer c.loop-i.invariant.lower_noted c.if-any_too_low.true

pub returns : goal.returns
returns c =
    let t = c.args.t in
    answered (sections t.bytes.now t.groups) c.args.patch.bytes.now c.args.patch.groups c.loop-i.i (omega arith) c.loop-i.invariant.none_fewer c.loop-i.invariant.lower_noted c.if-any_too_low.false
