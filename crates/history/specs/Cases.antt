-- Worked examples, computed from the definitions: small lists of calls, and the tables that they leave.
use Rattle.std.specs.Prelude.{ℕ, ◌≡◌, refl, true, false, List, [], ◌∷◌, ◌++◌, map, T, replicate, take, drop, pos}
use Rattle.std.proofs.Math.Pow.{are_bytes}
use Rattle.codec.specs.Bytes.{number, bytes, number_at}
use Rattle.codec.specs.Cells.{cells, image}
use Rattle.refusal.specs.Outcome.{accepted, refused, is_refusal}
use Rattle.level.specs.Level.{top_from, top, given, contribution, top_of, total}
use Rattle.level.specs.Finest.{finest_of}
use Rattle.single.specs.Single.{widened}
use Rattle.columns.specs.declared.Kind.TheVariants.{Double, Single}
use Rattle.columns.specs.Columns.{width, Row, rows_from, columns_fit, rows_of}
use Rattle.record.specs.Section.{Section, sections, section_bytes, written, find, kept, section_at_top}
use Rattle.std.specs.declared.cmp.Ordering.TheVariants.{Equal}
use Rattle.finish.specs.Sum.{too_large, nearest_double}
use Rattle.finish.specs.Side.{side}
use Rattle.finish.specs.Figure.{mill_figure, beyond}
use Rattle.std.specs.Float.Ieee.{to_bits, of_bits, round}
use Rattle.std.specs.Float.{binary64}
use Rattle.record.specs.Layout.{encode, decode}
use Rattle.record.specs.Keys.{rising}
use Rattle.record.specs.Sound.{sound_total, is_zero, sound_record, sound_records, sound}
use Rattle.table.specs.Combine.{of_row, level_of, combine, absorb, merged, added}
use Rattle.table.specs.Calls.{add_grounds, column_grounds, merge_grounds}
use Rattle.totals.specs.Totals.{row_total}
use Rattle.trailer.specs.Trailer.{trailer_of}
use Rattle.checkpoint.specs.Saved.{saved_table, wrong_layout}
use Rattle.checkpoint.specs.Calls.{save_grounds, save_outcome, load_grounds, load_outcome, load_leaves}
use Rattle.lists.specs.Lists.{any_of}
use Rattle.history.specs.Rows.{section_bits, insert_key, section_numbers, rows_totals}
use Rattle.history.specs.Canonical.{canonical}
use Rattle.history.specs.Calls.{sum, figure, line, exactness, totals, Call, add, merge, ask, save, load, too_many_rows, too_many_keys, add_rows_grounds, merge_rows_grounds, save_rows_grounds, load_rows_grounds, no_rows, step_rows, ledger_after}
use Rattle.history.specs.Run.{Store, State, no_groups, groups_are, sum_is, figure_is, line_is, exactness_is, totals_are, length_is, step, state_after, file_on, ask_table, answer, answers, refuses}
use Rattle.history.specs.Demand3.{History, sections_in}
use Rattle.history.specs.Older.{older_file, ordinary, load-older, step_older, state_after_older, answer_older, answers_older, OlderHistory, older_table, older_answers, step_origins, origins_after, from_older}
use Rattle.history.specs.Reloaded.{final_state, saving, reloading, SavedAndLoaded, named, uses, exchange, Renamed, RenamedCalls}

-- a buffer of 128 bytes: room for two sections
abbrev lent_buffer : List ℕ
lent_buffer = replicate 128 255

-- every table is empty, in such a buffer
abbrev empty_tables : State
empty_tables = no_groups (λ i. lent_buffer)

-- an add to table i of rows given by their keys and bits
abbrev add_to : (i : ℕ) (ks vs : List ℕ) → T (are_bytes (image (bytes 4) ks)) → Call
add_to i ks vs b = add i Double (image (bytes 4) ks) (image (bytes (width Double)) vs) b 128

-- an add to table i of rows given by their keys and the bits of short floats
abbrev add_short_to : (i : ℕ) (ks vs : List ℕ) → T (are_bytes (image (bytes 4) ks)) → Call
add_short_to i ks vs b = add i Single (image (bytes 4) ks) (image (bytes (width Single)) vs) b 128

-- an add that is refused, since three key bytes are no column
abbrev refused_add : Call
refused_add = add 0 Double (7 ∷ 0 ∷ 0 ∷ []) [] tt 128

-- 1 and 2^60 in section 7, the smallest double in section 3
abbrev example_rows : List Row
example_rows = record { key = 7; bits = 0x3FF0000000000000 } ∷ record { key = 3; bits = 1 } ∷ record { key = 7; bits = 0x43B0000000000000 } ∷ []

-- what a list of calls leaves in table 0
left_in_table0 : List Call → Store
unfolding state_after step answers answer ask_table add_grounds column_grounds merge_grounds save_outcome save_grounds saved_table trailer_of load_outcome load_grounds load_leaves wrong_layout sound rising cells sound_records sound_record sound_total is_zero columns_fit image bytes any_of rows_of rows_from number number_at added merged absorb combine level_of of_row top top_from given contribution finest_of encode decode widened of_bits to_bits
left_in_table0 cs = (state_after empty_tables cs).tables 0

-- the same rows in one add, in another order, in two adds, merged from another table, merged the other way round, with a refused add between, loaded from the
-- file of another table, with a half-done table saved and, after a row that is lost, loaded again, with short floats before a double, and merged from a table of
-- short floats into one of doubles with an infinite one refused
ways : List (List Call)
unfolding image bytes
ways =
    (add_to 0 (7 ∷ 3 ∷ 7 ∷ []) (0x3FF0000000000000 ∷ 1 ∷ 0x43B0000000000000 ∷ []) tt ∷ [])
    ∷ (add_to 0 (7 ∷ 7 ∷ 3 ∷ []) (0x43B0000000000000 ∷ 0x3FF0000000000000 ∷ 1 ∷ []) tt ∷ [])
    ∷ (add_to 0 (7 ∷ []) (0x3FF0000000000000 ∷ []) tt ∷ add_to 0 (7 ∷ 3 ∷ []) (0x43B0000000000000 ∷ 1 ∷ []) tt ∷ [])
    ∷ (add_to 0 (7 ∷ []) (0x3FF0000000000000 ∷ []) tt ∷ add_to 1 (7 ∷ 3 ∷ []) (0x43B0000000000000 ∷ 1 ∷ []) tt ∷ merge 0 1 tt ∷ [])
    ∷ (add_to 1 (7 ∷ []) (0x3FF0000000000000 ∷ []) tt ∷ add_to 0 (7 ∷ 3 ∷ []) (0x43B0000000000000 ∷ 1 ∷ []) tt ∷ merge 0 1 tt ∷ [])
    ∷ (add_to 0 (7 ∷ []) (0x3FF0000000000000 ∷ []) tt ∷ refused_add ∷ add_to 0 (7 ∷ 3 ∷ []) (0x43B0000000000000 ∷ 1 ∷ []) tt ∷ [])
    ∷ (add_to 1 (7 ∷ 3 ∷ 7 ∷ []) (0x3FF0000000000000 ∷ 1 ∷ 0x43B0000000000000 ∷ []) tt ∷ save 1 144 ∷ load 0 0 ∷ [])
    ∷ (add_to 0 (7 ∷ []) (0x3FF0000000000000 ∷ []) tt ∷ save 0 80 ∷ add_to 0 (8 ∷ []) (1 ∷ []) tt ∷ load 0 0 ∷ add_to 0 (7 ∷ 3 ∷ []) (0x43B0000000000000 ∷ 1 ∷ []) tt ∷ [])
    ∷ (add_short_to 0 (7 ∷ 7 ∷ []) (0x5D800000 ∷ 0x3F800000 ∷ []) tt ∷ add_to 0 (3 ∷ []) (1 ∷ []) tt ∷ [])
    ∷ (add_to 0 (3 ∷ 7 ∷ []) (1 ∷ 0x43B0000000000000 ∷ []) tt ∷ add_short_to 0 (7 ∷ 3 ∷ []) (0x3F800000 ∷ 0x7F800000 ∷ []) tt ∷ add_short_to 1 (7 ∷ []) (0x3F800000 ∷ []) tt ∷ merge 0 1 tt ∷ [])
    ∷ []

one_table : map left_in_table0 ways ≡ replicate 10 (record { buffer = written (canonical example_rows) lent_buffer; groups = 2 })
unfolding ways left_in_table0 canonical section_numbers insert_key section_bits section_at_top top_of total
one_table = refl

-- two sections and three rows, whichever way
totals_alike : map (λ (cs : List Call). ask_table (left_in_table0 cs) totals) ways ≡ replicate 10 (totals_are (accepted (rows_totals example_rows)))
unfolding ways left_in_table0 row_total section_numbers insert_key
totals_alike = refl

example_totals : rows_totals example_rows ≡ record { groups = 2; count = 3 }
unfolding section_numbers insert_key
example_totals = refl

-- a table merged twice counts twice, in the rows, in the record and in the totals
twice : List Call
unfolding image bytes
twice = add_to 0 (7 ∷ []) (1 ∷ []) tt ∷ add_to 1 (7 ∷ []) (2 ∷ []) tt ∷ merge 0 1 tt ∷ merge 0 1 tt ∷ []

rows-twice : map (λ (r : Row). r.bits) ((ledger_after (λ (i : ℕ). 128) no_rows twice).rows 0) ≡ 1 ∷ 2 ∷ 2 ∷ []
unfolding twice left_in_table0 ledger_after step_rows merge_rows_grounds too_many_rows section_numbers add_rows_grounds insert_key section_bits too_many_keys
rows-twice = refl

count-twice : map (λ (t : Section). t.count) (sections (left_in_table0 twice).buffer 1) ≡ 3 ∷ []
unfolding twice left_in_table0
count-twice = refl

totals-twice : ask_table (left_in_table0 twice) totals ≡ totals_are (accepted (record { groups = 1; count = 3 }))
unfolding twice left_in_table0 row_total
totals-twice = refl

-- the totals asked at first, after an add, after a refused one and after another
totals_asked : List Call
unfolding image bytes
totals_asked =
    ask 0 totals ∷ add_to 0 (7 ∷ 3 ∷ []) (1 ∷ 2 ∷ []) tt ∷ ask 0 totals ∷ refused_add ∷ ask 0 totals ∷ add_to 0 (7 ∷ []) (1 ∷ []) tt ∷ ask 0 totals ∷ []

totals_between : answers empty_tables totals_asked
    ≡ totals_are (accepted (record { groups = 0; count = 0 })) ∷ groups_are (accepted 2)
    ∷ totals_are (accepted (record { groups = 2; count = 2 })) ∷ groups_are (refused 9)
    ∷ totals_are (accepted (record { groups = 2; count = 2 })) ∷ groups_are (accepted 2)
    ∷ totals_are (accepted (record { groups = 2; count = 3 })) ∷ []
unfolding totals_asked left_in_table0 row_total
totals_between = refl

-- two tables saved, the second after an output that is too short; the files are loaded by number, and the third is not on the shelf
shelf_calls : List Call
unfolding image bytes
shelf_calls =
    add_to 0 (7 ∷ 3 ∷ []) (1 ∷ 2 ∷ []) tt ∷ add_to 1 (5 ∷ []) (3 ∷ []) tt ∷ save 0 144 ∷ save 1 79 ∷ save 1 80 ∷ load 0 1 ∷ load 1 2 ∷ load 1 0 ∷ []

answers_of_files : answers empty_tables shelf_calls
    ≡ groups_are (accepted 2) ∷ groups_are (accepted 1) ∷ length_is (accepted 144) ∷ length_is (refused 16) ∷ length_is (accepted 80)
    ∷ groups_are (accepted 1) ∷ groups_are (refused 2) ∷ groups_are (accepted 2) ∷ []
unfolding shelf_calls left_in_table0
answers_of_files = refl

-- table 0 has the row of table 1, and after its record the bytes of its own second one; table 1 has the rows that table 0 had
rows_of_files : map (λ (i : ℕ). (ledger_after (λ (j : ℕ). 128) no_rows shelf_calls).rows i) (0 ∷ 1 ∷ [])
    ≡ (record { key = 5; bits = 3 } ∷ []) ∷ (record { key = 7; bits = 1 } ∷ record { key = 3; bits = 2 } ∷ []) ∷ []
unfolding shelf_calls left_in_table0 ledger_after step_rows merge_rows_grounds too_many_rows section_numbers add_rows_grounds insert_key section_bits too_many_keys save_rows_grounds load_rows_grounds
rows_of_files = refl

bytes_of_files : left_in_table0 shelf_calls
    ≡ record { buffer = section_bytes (canonical (record { key = 5; bits = 3 } ∷ [])) ++ section_bytes (canonical (record { key = 7; bits = 1 } ∷ [])); groups = 1 }
unfolding shelf_calls left_in_table0 canonical section_numbers insert_key section_bits section_at_top top_of total
bytes_of_files = refl

-- a row in section 7 of table 0 and one in section 5 of table 1; then table 0 is saved, and its file is loaded into table 1
half_done : History
unfolding image bytes
half_done = record { initial = λ i. lent_buffer; calls = add_to 0 (7 ∷ []) (1 ∷ []) tt ∷ add_to 1 (5 ∷ []) (3 ∷ []) tt ∷ [] }

half_done_loaded : SavedAndLoaded half_done 0 80 [] 1
unfolding half_done left_in_table0
half_done_loaded = record { answered-length = 80; answered-groups = 1; save-accepted = refl; load-accepted = refl }

-- calls that go on with table 1, none of them with the original, and the same calls on the original
on_loaded : List Call
unfolding image bytes
on_loaded = add_to 1 (8 ∷ []) (2 ∷ []) tt ∷ merge 2 1 tt ∷ merge 1 2 tt ∷ ask 1 totals ∷ save 1 200 ∷ load 2 0 ∷ []

on_original : List Call
unfolding image bytes
on_original = add_to 0 (8 ∷ []) (2 ∷ []) tt ∷ merge 2 0 tt ∷ merge 0 2 tt ∷ ask 0 totals ∷ save 0 200 ∷ load 2 0 ∷ []

original_unused : any_of (uses 0) on_loaded ≡ false
unfolding on_loaded named any_of
original_unused = refl

numbers_exchanged : RenamedCalls (exchange 0 1) on_loaded on_original
unfolding RenamedCalls Renamed exchange on_loaded on_original
numbers_exchanged = (refl, ((tt, refl), ((tt, refl), (refl, (refl, (refl, tt))))))

-- what both are answered: of the row in section 5 nothing is left
answers_on : map (λ (a : History × List Call). answers (final_state a.0) a.1) ((reloading half_done 0 80 [] 1, on_loaded) ∷ (saving half_done 0 80 [], on_original) ∷ [])
    ≡ replicate 2 (groups_are (accepted 2) ∷ groups_are (accepted 2) ∷ groups_are (accepted 2) ∷ totals_are (accepted (record { groups = 2; count = 4 })) ∷ length_is (accepted 144) ∷ groups_are (accepted 1) ∷ [])
unfolding half_done on_loaded on_original left_in_table0 row_total
answers_on = refl

-- one call of each kind that gets a table with its group count
each_call : List Call
unfolding image bytes
each_call = add_to 0 (7 ∷ []) (1 ∷ []) tt ∷ merge 0 1 tt ∷ ask 0 (sum 7) ∷ ask 0 (figure 7) ∷ ask 0 (line 7) ∷ ask 0 (exactness 7) ∷ ask 0 totals ∷ save 0 80 ∷ []

-- every table claims a record and has none
unsound_tables : State
unsound_tables = record { tables = λ i. record { buffer = []; groups = 1 }; shelf = [] }

-- each is refused with 7 there, and with no other number
refused_with_7 : map (λ (c : Call). refuses 7 (answer unsound_tables c)) each_call ≡ replicate 8 true
unfolding each_call unsound_tables answer ask_table sound is_refusal add_grounds column_grounds merge_grounds save_outcome save_grounds
refused_with_7 = refl

not_with_8 : map (λ (c : Call). refuses 8 (answer unsound_tables c)) each_call ≡ replicate 8 false
unfolding each_call unsound_tables answer ask_table sound is_refusal add_grounds column_grounds merge_grounds save_outcome save_grounds
not_with_8 = refl

-- refused with 9, accepted, and refused with 12 and with 10
four_adds : List Call
unfolding image bytes
four_adds = refused_add ∷ add_to 0 (7 ∷ 3 ∷ []) (1 ∷ 2 ∷ []) tt ∷ add_to 0 (5 ∷ []) (1 ∷ []) tt ∷ add_to 0 (3 ∷ []) (0x7FF0000000000000 ∷ []) tt ∷ []

-- answers: a refusal's number, or the new group count
numbers : answers empty_tables four_adds ≡ groups_are (refused 9) ∷ groups_are (accepted 2) ∷ groups_are (refused 12) ∷ groups_are (refused 10) ∷ []
unfolding four_adds left_in_table0
numbers = refl

-- 2^60, 3 and -2^60 in section 7, and questions
three_questions : List Call
unfolding image bytes
three_questions =
    add_to 0 (7 ∷ 7 ∷ 7 ∷ []) (0x43B0000000000000 ∷ 0x4008000000000000 ∷ 0xC3B0000000000000 ∷ []) tt
    ∷ ask 0 (sum 7) ∷ ask 0 (figure 7) ∷ ask 0 (line 8) ∷ []

-- they sum to 3, not rounded; mill figure 300; section 8 is absent
finished : answers empty_tables three_questions
    ≡ groups_are (accepted 1) ∷ sum_is (accepted (record { sum = of_bits binary64 0x4008000000000000; side = Equal })) ∷ figure_is (accepted (pos 300)) ∷ line_is (refused 13) ∷ []
unfolding three_questions left_in_table0 find kept too_large nearest_double side mill_figure beyond of_bits to_bits round
finished = refl

-- 2^60 and 2^-34 in section 7, 2^60 and 2^-35 in section 8: the lowest kept level counts in units of 2^-34
exactness_asked : List Call
unfolding image bytes
exactness_asked =
    add_to 0 (7 ∷ 8 ∷ 7 ∷ 8 ∷ []) (0x43B0000000000000 ∷ 0x43B0000000000000 ∷ 0x3DD0000000000000 ∷ 0x3DC0000000000000 ∷ []) tt
    ∷ ask 0 (exactness 7) ∷ ask 0 (exactness 8) ∷ ask 0 (exactness 9) ∷ []

-- nothing of section 7 was dropped, of section 8 it is not known, and section 9 is absent
exactness_told : answers empty_tables exactness_asked ≡ groups_are (accepted 2) ∷ exactness_is (accepted true) ∷ exactness_is (accepted false) ∷ exactness_is (refused 13) ∷ []
unfolding exactness_asked left_in_table0 find
exactness_told = refl

-- 1 in section 7 of table 0, whose file is loaded into table 1 as an older version wrote it; 0.5 in section 7 and 1 in section 9 are added there
older_half : OlderHistory
unfolding image bytes
older_half = record {
  initial = λ i. lent_buffer;
  calls = ordinary (add_to 0 (7 ∷ []) (0x3FF0000000000000 ∷ []) tt) ∷ ordinary (save 0 80) ∷ load-older 1 0
      ∷ ordinary (add_to 1 (7 ∷ 9 ∷ []) (0x3FE0000000000000 ∷ 0x3FF0000000000000 ∷ []) tt) ∷ ordinary (ask 1 (exactness 7)) ∷ ordinary (ask 1 (exactness 9)) ∷ [];
}

-- of section 7 it is not known, section 9 is exact
older_half_told : older_answers older_half
    ≡ groups_are (accepted 1) ∷ length_is (accepted 80) ∷ groups_are (accepted 1) ∷ groups_are (accepted 2) ∷ exactness_is (accepted false) ∷ exactness_is (accepted true) ∷ []
unfolding older_half left_in_table0 answers_older answer_older step_older find
older_half_told = refl

-- the older file brought section 7, and not section 9; their finest powers are 0 and 1074
older_brought : (map (from_older older_half 1) (7 ∷ 9 ∷ 5 ∷ []) ≡ true ∷ false ∷ false ∷ []) × (map (λ (t : Section). t.finest) (sections_in (older_table older_half 1)) ≡ 0 ∷ 1074 ∷ [])
unfolding older_half left_in_table0 state_after_older step_older origins_after step_origins ledger_after step_rows too_many_rows section_numbers add_rows_grounds insert_key section_bits too_many_keys save_rows_grounds load_rows_grounds
older_brought = (refl, refl)

-- the file of table 0, and as an older version wrote it: zeros from byte 12 on, and all other bytes the same
saved_half : List ℕ
unfolding older_half left_in_table0 state_after_older step_older
saved_half = file_on (state_after_older empty_tables older_half.calls).shelf 0

older-zeros : (take 4 (drop 12 saved_half) ≡ 0x32 ∷ 0x04 ∷ 0 ∷ 0 ∷ []) × (older_file saved_half ≡ take 12 saved_half ++ 0 ∷ 0 ∷ 0 ∷ 0 ∷ drop 16 saved_half)
unfolding saved_half
older-zeros = (refl, refl)
