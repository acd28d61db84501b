-- Worked examples, computed from the definitions: lists of calls with removals, what they answer, and the accounts.
use Rattle.std.specs.Prelude.{ℕ, ◌≡◌, refl, true, false, List, [], ◌∷◌, map, T, replicate}
use Rattle.std.proofs.Math.Pow.{are_bytes}
use Rattle.lists.specs.Lists.{any_of}
use Rattle.codec.specs.Bytes.{number, bytes, number_at}
use Rattle.codec.specs.Cells.{cells, image}
use Rattle.refusal.specs.Outcome.{accepted, refused}
use Rattle.level.specs.Level.{top_from, top, given, contribution, total}
use Rattle.level.specs.Finest.{finest_of}
use Rattle.columns.specs.declared.Kind.TheVariants.{Double}
use Rattle.columns.specs.Columns.{width, Row, rows_from, columns_fit, rows_of}
use Rattle.record.specs.Section.{written, find}
use Rattle.record.specs.Layout.{encode, decode}
use Rattle.record.specs.Keys.{rising}
use Rattle.record.specs.Sound.{sound_total, is_zero, sound_record, sound_records, sound}
use Rattle.table.specs.Combine.{of_row, level_of, combine, absorb, merged, added}
use Rattle.table.specs.Calls.{add_grounds, column_grounds, merge_grounds}
use Rattle.totals.specs.Totals.{row_total}
use Rattle.trailer.specs.Trailer.{trailer_of}
use Rattle.checkpoint.specs.Saved.{saved_table, wrong_layout}
use Rattle.checkpoint.specs.Calls.{save_grounds, save_outcome, load_grounds, load_outcome, load_leaves}
use Rattle.remove.specs.Remaining.{without, without_if, all_without, with_rows, remaining, has_fewer, has_lower, exceeds}
use Rattle.remove.specs.Calls.{patch_grounds, remove_grounds}
use Rattle.remove.specs.Cases.{one, two, large, empty_buffer}
use Rattle.history.specs.Rows.{occurs}
use Rattle.history.specs.Calls.{exactness, totals, add, merge, ask, save, load}
use Rattle.history.specs.Run.{no_groups, Answer, groups_are, exactness_is, totals_are, length_is, step, ask_table, answer}
use Rattle.history.specs.Older.{step_older, answer_older, ordinary, load-older}
use Rattle.accounts.specs.Holds.{held_at}
use Rattle.accounts.specs.AnyCalls.{AnyCall, other, remove, step_any, state_after_any, answer_any, answers_any}
use Rattle.accounts.specs.Accounts.{take_one, take_out, lacking, equal_patches, take_patch, Account, step_accounts, accounts_after}
use Rattle.accounts.specs.Claim.{Way, table_of, account_of}

-- the double 3
abbrev three : ℕ
three = 0x4008000000000000

-- a row of section 7
abbrev row : ℕ → Row
row b = record { key = 7; bits = b }

-- every table is empty, in a buffer of 200 bytes
abbrev way_of : List AnyCall → Way
way_of es = record { initial = λ i. empty_buffer; calls = es }

-- an add to table i, and a removal from it, of rows given by their keys and bits
abbrev adding_to : (i : ℕ) (ks vs : List ℕ) → T (are_bytes (image (bytes 4) ks)) → AnyCall
adding_to i ks vs b = other (ordinary (add i Double (image (bytes 4) ks) (image (bytes (width Double)) vs) b 200))

abbrev removing_from : (i : ℕ) (ks vs : List ℕ) → T (are_bytes (image (bytes 4) ks)) → AnyCall
removing_from i ks vs b = remove i Double (image (bytes 4) ks) (image (bytes (width Double)) vs) b 200

-- what a list of calls answers, and the account of table i after it
replies : List AnyCall → List Answer
unfolding answers_any answer_any answer_older answer ask_table step_any step_older step remove_grounds patch_grounds add_grounds column_grounds merge_grounds save_outcome save_grounds saved_table trailer_of load_outcome load_grounds load_leaves wrong_layout sound rising cells sound_records sound_record sound_total is_zero columns_fit image bytes any_of rows_of rows_from number number_at added merged absorb combine level_of of_row top top_from given contribution finest_of encode decode find without without_if all_without with_rows remaining has_fewer has_lower exceeds row_total
replies es = answers_any (no_groups (λ i. empty_buffer)) es

account_after : List AnyCall → ℕ → Account
unfolding replies accounts_after step_accounts take_out take_one lacking equal_patches take_patch occurs
account_after es i = account_of (way_of es) i

-- two patches; the second, which set the top, is taken back out
back : List AnyCall
unfolding image bytes
back = adding_to 0 (7 ∷ 7 ∷ []) (one ∷ two ∷ []) tt ∷ adding_to 0 (7 ∷ []) (large ∷ []) tt ∷ removing_from 0 (7 ∷ []) (large ∷ []) tt ∷ []

back_account : account_after back 0
    ≡ record {
      account_rows = row one ∷ row two ∷ [];
      brought = 3;
      removed = 1;
      accounted = true;
      patches = (row one ∷ row two ∷ []) ∷ [];
      patchwise = true;
    }
unfolding back account_after
back_account = refl

back-table : table_of (way_of back) 0 ≡ record { buffer = written (held_at 7 (one ∷ two ∷ []) 28 1074 ∷ []) empty_buffer; groups = 1 }
unfolding back replies state_after_any held_at total
back-table = refl

-- one row of a patch of two: accounted for, though no patch that was added; the last row, and then a table with no section
singly : List AnyCall
unfolding image bytes
singly = adding_to 0 (7 ∷ 7 ∷ []) (one ∷ two ∷ []) tt ∷ removing_from 0 (7 ∷ []) (two ∷ []) tt ∷ removing_from 0 (7 ∷ []) (one ∷ []) tt ∷ removing_from 0 (7 ∷ []) (one ∷ []) tt ∷ []

singly-replies : replies singly ≡ groups_are (accepted 1) ∷ groups_are (accepted 1) ∷ groups_are (accepted 0) ∷ groups_are (refused 20) ∷ []
unfolding singly replies
singly-replies = refl

singly_account : account_after singly 0 ≡ record { account_rows = []; brought = 2; removed = 2; accounted = true; patches = (row one ∷ row two ∷ []) ∷ []; patchwise = false }
unfolding singly account_after
singly_account = refl

-- a patch of 1 in table 0 and one of 2 in table 1, which is merged into table 0; there the second patch is removed, and once more. The first time it is one that was added,
-- the second time it is refused, and changes nothing
merges : List AnyCall
unfolding image bytes
merges =
    adding_to 0 (7 ∷ []) (one ∷ []) tt ∷ adding_to 1 (7 ∷ []) (two ∷ []) tt ∷ other (ordinary (merge 0 1 tt)) ∷ removing_from 0 (7 ∷ []) (two ∷ []) tt
    ∷ removing_from 0 (7 ∷ []) (two ∷ []) tt ∷ []

merges-replies : replies merges ≡ groups_are (accepted 1) ∷ groups_are (accepted 1) ∷ groups_are (accepted 1) ∷ groups_are (accepted 1) ∷ groups_are (refused 22) ∷ []
unfolding merges replies
merges-replies = refl

merges_account : account_after merges 0 ≡ record { account_rows = row one ∷ []; brought = 2; removed = 1; accounted = true; patches = (row one ∷ []) ∷ []; patchwise = true }
unfolding merges account_after
merges_account = refl

-- 3 was never there: its removal from 1 and 2 is accepted, and the table is no longer accounted for; nor is one that it is merged into
never_there : List AnyCall
unfolding image bytes
never_there = adding_to 0 (7 ∷ 7 ∷ []) (one ∷ two ∷ []) tt ∷ removing_from 0 (7 ∷ []) (three ∷ []) tt ∷ other (ordinary (merge 1 0 tt)) ∷ []

never_there_accounts : map (account_after never_there) (0 ∷ 1 ∷ [])
    ≡ replicate 2 (record {
      account_rows = row one ∷ row two ∷ [];
      brought = 2;
      removed = 1;
      accounted = false;
      patches = (row one ∷ row two ∷ []) ∷ [];
      patchwise = false;
    })
unfolding never_there account_after
never_there_accounts = refl

-- a patch of 1 and 2; the table is saved, 1 is taken out of it, and its file is loaded back: the account of the file, with both rows and nothing removed.
-- In table 1, where the file is loaded as an older version wrote it, it is not known whether section 7 is exact
reloads : List AnyCall
unfolding image bytes
reloads =
    adding_to 0 (7 ∷ 7 ∷ []) (one ∷ two ∷ []) tt ∷ other (ordinary (save 0 200)) ∷ removing_from 0 (7 ∷ []) (one ∷ []) tt ∷ other (ordinary (ask 0 totals))
    ∷ other (ordinary (load 0 0)) ∷ other (ordinary (ask 0 totals)) ∷ other (load-older 1 0) ∷ adding_to 1 (7 ∷ []) (large ∷ []) tt ∷ removing_from 1 (7 ∷ []) (large ∷ []) tt
    ∷ other (ordinary (ask 0 (exactness 7))) ∷ other (ordinary (ask 1 (exactness 7))) ∷ []

reloads-replies : replies reloads
    ≡ groups_are (accepted 1) ∷ length_is (accepted 80) ∷ groups_are (accepted 1) ∷ totals_are (accepted (record { groups = 1; count = 1 }))
    ∷ groups_are (accepted 1) ∷ totals_are (accepted (record { groups = 1; count = 2 })) ∷ groups_are (accepted 1) ∷ groups_are (accepted 1) ∷ groups_are (accepted 1)
    ∷ exactness_is (accepted true) ∷ exactness_is (accepted false) ∷ []
unfolding reloads replies
reloads-replies = refl

reloads_accounts : map (account_after reloads) (0 ∷ 1 ∷ [])
    ≡ record { account_rows = row one ∷ row two ∷ []; brought = 2; removed = 0; accounted = true; patches = (row one ∷ row two ∷ []) ∷ []; patchwise = true }
    ∷ record { account_rows = row one ∷ row two ∷ []; brought = 3; removed = 1; accounted = true; patches = (row one ∷ row two ∷ []) ∷ []; patchwise = true }
    ∷ []
unfolding reloads account_after
reloads_accounts = refl
