-- No public call has a precondition.
use Rattle.conformance.specs.AsksNothing.{AsksNothing}

pub asks_nothing : AsksNothing
asks_nothing = record {
  of_read = λ κs a. tt;
  of_keys = λ κs a. tt;
  of_values = λ κs a. tt;
  of_key_start = λ κs a. tt;
  of_value_start = λ κs a. tt;
  of_write = λ κs a. tt;
  of_add = λ κs a. tt;
  of_remove = λ κs a. tt;
  of_merge = λ κs a. tt;
  of_sum = λ κs a. tt;
  of_figure = λ κs a. tt;
  of_line = λ κs a. tt;
  of_exactness = λ κs a. tt;
  of_totals = λ κs a. tt;
  of_save = λ κs a. tt;
  of_load = λ κs a. tt;
  of_report = λ κs a. tt;
  of_girth_read = λ κs a. tt;
  of_girth_add = λ κs a. tt;
  of_girth_remove = λ κs a. tt;
  of_girth_merge = λ κs a. tt;
  of_girth_sum = λ κs a. tt;
  of_girth_figure = λ κs a. tt;
  of_girth_line = λ κs a. tt;
  of_girth_exact = λ κs a. tt;
  of_girth_totals = λ κs a. tt;
  of_girth_write = λ κs a. tt;
  of_girth_save = λ κs a. tt;
  of_girth_load = λ κs a. tt;
  of_girth_report = λ κs a. tt;
}
