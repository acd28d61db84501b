-- `records_sound`: the records from i on decide, and the keys from i on, since each before i was sound and rose.
use Prim.Native.Nat.{ℕ, suc, ◌+◌, ◌*◌, ◌≤◌, ◌<◌}
use mathlib.Core.Path.{◌≡◌, refl, sym, ap, ap₂, ◌∙◌}
use mathlib.Core.Bool.{Bool, true, false, not, ◌&&◌, and-false}
use mathlib.Core.List.{List}
use native.Mathlib.Omega.{arith}
use native.Mathlib.Numerals.{add-one}
use borrow.Author.Tests.{not-true, not-false}
use lib.ListN.{length, get_or, drop, drop_of_length-le}
use Rattle.codec.specs.Bytes.{number_at}
use Rattle.codec.proofs.Cells.{length-cells}
use Rattle.record.specs.declared.Record.{Record}
use Rattle.record.specs.Layout.{record_at, records, decode}
use Rattle.record.specs.Keys.{record_keys, rising}
use Rattle.record.specs.Sound.{sound_record, sound_records}
use Rattle.record.proofs.Laws.{get_d_records, get_d_keys, length-keys}
use Rattle.soundness.proofs.Tests.{sound_cons, rising_more, rising_stop, rising_last}
use Rattle.soundness.proofs.records_sound.Goals as goal
use Rattle.soundness.proofs.records_sound.Goals.{then-next-g+else-read-r, else-next-g}

-- the records from i on
abbrev from : List ℕ → ℕ → ℕ → Bool
from s g i = rising (drop i (record_keys (records s g))) && sound_records (drop i (records s g))

-- one more record; r is the record as it was read, and ok the answer of its test
module _ (s : List ℕ) (g i : ℕ) (fits : g * 64 ≤ length s) (h : i < g) {r : Record} (er : r ≡ record_at s (i * 64)) {ok : Bool} (eo : ok ≡ sound_record r) where
  here : sound_records (drop i (records s g)) ≡ (ok && sound_records (drop (i + 1) (records s g)))
  here =
      rw add-one (sound_cons (records s g) i r (rw length-cells h)
      ∙ ap (λ (x : Record). sound_record x && sound_records (drop (suc i) (records s g))) (get_d_records s g fits i r h ∙ sym er)
      ∙ ap (λ (x : Bool). x && sound_records (drop (suc i) (records s g))) (sym eo))

  stop : not ok ≡ true → from s g i ≡ false
  stop e = rw (here, not-true ok e) (and-false (rising (drop i (record_keys (records s g)))))

  more : not ok ≡ false → sound_records (drop i (records s g)) ≡ sound_records (drop (i + 1) (records s g))
  more e = here ∙ rw (not-false ok e)

  -- the last record
  last : not ok ≡ false → g ≤ i + 1 → from s g i ≡ from s g (i + 1)
  last e l =
      let ks = record_keys (records s g) in
      ap₂ (λ (a b : Bool). a && b) (rising_last ks i (omega (arith, length-keys s g)) ∙ sym (rising_last ks (i + 1) (omega (arith, length-keys s g)))) (more e)

  -- the key of the next record is y, as it was read
  module _ (l : i + 1 < g) {y : ℕ} (ey : y ≡ number_at 4 s ((i + 1) * 64)) where
    first : get_or (record_keys (records s g)) i 0 ≡ r.key
    first = get_d_keys s g fits i h ∙ sym (ap (λ (x : Record). x.key) er)

    second : get_or (record_keys (records s g)) (suc i) 0 ≡ y
    second = rw (← add-one i) (get_d_keys s g fits (i + 1) l ∙ sym ey)

    fall : y ≤ r.key → from s g i ≡ false
    fall q = rw (rising_stop (record_keys (records s g)) i (omega (arith, length-keys s g)) (omega (arith, first, second)))

    rise : not ok ≡ false → r.key < y → from s g i ≡ from s g (i + 1)
    rise e q =
        let up : rising (drop i (record_keys (records s g))) ≡ rising (drop (i + 1) (record_keys (records s g))) = rw add-one (rising_more (record_keys (records s g)) i (omega (arith, length-keys s g)) (omega (arith, first, second))) in
        ap₂ (λ (a b : Bool). a && b) up (more e)

pub loop-i-init : goal.loop-i-init
loop-i-init c = refl

pub returns-then-not-record_sound : goal.returns-then-not-record_sound
returns-then-not-record_sound c =
    let l = c.loop-i in
    sym (stop c.args.t.now c.args.g l.i c.requires (omega arith) c.get-r.ensures c.record_sound.ensures (ap not c.if-not-record_sound.true)) ∙ l.invariant

pub returns-then-read-r : goal.returns-then-read-r
returns-then-read-r c =
    let l = c.loop-i in
    sym (fall c.args.t.now c.args.g l.i c.requires (omega arith) c.get-r.ensures c.record_sound.ensures (omega arith) c.read.ensures c.if-read-r.true) ∙ l.invariant

pub loop-i-preserved : goal.loop-i-preserved
loop-i-preserved c =
    let l = c.loop-i in
    let t = c.args.t.now in
    elim c.if-next-g.branch [
      | then-next-g+else-read-r w ↦ sym (rise t c.args.g l.i c.requires (omega arith) c.get-r.ensures c.record_sound.ensures (omega arith) w.read.ensures (ap not c.if-not-record_sound.false) w.if-read-r.false) ∙ l.invariant
      | else-next-g w ↦ sym (last t c.args.g l.i c.requires (omega arith) c.get-r.ensures c.record_sound.ensures (ap not c.if-not-record_sound.false) (omega arith)) ∙ l.invariant
    ]

pub returns : goal.returns
unfolding sound_records
returns c =
    let a = c.args in
    let l = c.loop-i in
    let rs = records a.t.now a.g in
    sym (ap₂ (λ (x y : Bool). x && y) (rising_last (record_keys rs) l.i (omega (arith, length-keys a.t.now a.g)))
    (ap sound_records (drop_of_length-le rs {i = l.i} (omega (arith, length-cells 64 decode a.g a.t.now))))) ∙ l.invariant
