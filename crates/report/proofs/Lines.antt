-- A section's line by its finished line, and the sections of a sound table in their places.
use Prim.Native.Nat.{ℕ, zero, suc, ◌*◌, ◌<◌, ◌≤◌}
use mathlib.Core.Path.{◌≡◌, sym, ap, ◌∙◌}
use mathlib.Core.List.{List, [], ◌∷◌, ◌++◌, append_assoc}
use mathlib.Core.Option.{some}
use native.Mathlib.Omega.{arith}
use lib.Dec.{T}
use lib.IntN.{ℤ}
use lib.ListN.{length, get_or, take, length-append}
use lib.Seq.{take-suc}
use lib.Ieee.{binary64, to_bits}
use lib.Ieee.Scale.{finite}
use Rattle.codec.specs.Cells.{image}
use Rattle.codec.proofs.Cells.{image_snoc}
use Rattle.refusal.specs.Outcome.{Outcome, accepted, refused}
use Rattle.refusal.proofs.Outcomes.{refused_alike}
use Rattle.record.specs.Layout.{record_at}
use Rattle.record.specs.Section.{Section, meaning, sections}
use Rattle.record.specs.Sound.{sound}
use Rattle.record.proofs.Laws.{get_d_sections}
use Rattle.record.proofs.Sound.{sound_parts}
use Rattle.table.proofs.State.{length-sections}
use Rattle.limbs.specs.Side.{side_number}
use Rattle.finish.specs.Finish.{sum_of, figure_of, figure_for, figure_grounds, line_of, line_for}
use Rattle.finish.specs.declared.FinishedLine.{FinishedLine}
use Rattle.finish.proofs.Outcomes.{line-given}
use Rattle.numerals.specs.Numerals.{decimal, integer, hexadecimal}
use Rattle.report.specs.Text.{space, line_feed, figure_fields, last_fields, line_with, finished_text, line_text}

-- ---- a finished line, piece by piece
pub line_pieces : (l : FinishedLine)
    → finished_text l ≡ decimal l.key ++ space ++ decimal l.count ++ space ++ hexadecimal (to_bits binary64 l.sum) ++ space ++ integer l.figure ++ space ++ integer (side_number l.side) ++ line_feed
unfolding line_with last_fields figure_fields
line_pieces l = simp append_assoc

-- ---- the line of a section

abbrev pub GivesLine : Section → FinishedLine → Type 0
GivesLine s l = T (finite l.sum) × (finished_text l ≡ line_text s)

pub line-finished : (s : Section) (l : FinishedLine) → accepted l ≡ line_of (some s) → GivesLine s l
unfolding line_text
line-finished s l e =
    let g = line-given s l (sym e) in
    (g.finite_sum, rw (← g.is, g.small, g.not_beyond))

-- where a line is refused, its figure is refused with the same number
pub unfinished : (s : Section) (n : ℕ) → refused n ≡ line_of (some s)
    → line_with s.key s.count (last_fields (sum_of (some s)) (refused n)) ≡ line_text s
unfolding line_text
unfinished s n e =
    let q : figure_of (some s) ≡ refused n = refused_alike (figure_grounds s) (line_for s) (figure_for s) (sym e) in
    ap (λ (f : Outcome ℤ). line_with s.key s.count (last_fields (sum_of (some s)) f)) (sym q)

-- ---- a section in its place

module _ (s : List ℕ) (g i : ℕ) (ok : T (sound s g)) (h : i < g) where
  abbrev here : Section
  here = meaning (record_at s (i * 64))

  -- one more line
  pub more_lines : image line_text (take (suc i) (sections s g)) ≡ image line_text (take i (sections s g)) ++ line_text here
  more_lines =
      ap (image line_text) (take-suc (sections s g) i here (omega (arith, length-sections s g)))
      ∙ image_snoc line_text (take i (sections s g)) (get_or (sections s g) i here)
      ∙ ap (λ (t : Section). image line_text (take i (sections s g)) ++ line_text t) (get_d_sections s g (sound_parts s g ok).0 i (record_at s (i * 64)) h)

-- the lines of the first sections are no longer than those of all
pub few_lines : (n : ℕ) (ts : List Section) → length (image line_text (take n ts)) ≤ length (image line_text ts)
unfolding image
few_lines zero ts = omega arith
few_lines (suc n) [] = omega arith
few_lines (suc n) (t ∷ ts) = simp length-append (omega (arith, few_lines n ts))
