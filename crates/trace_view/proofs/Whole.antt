-- A line's numbers are whole.
use Rattle.std.proofs.Common.{◌≡◌, ℕ, false, refl, List}
use Rattle.std.specs.Prelude.{Option, Some, None, option_map}
use Rattle.serde_json.specs.Written.{has_float}
use Rattle.trace_view.specs.declared.journal.Step.{Step}
use Rattle.trace_view.specs.declared.members.Member.{Member}
use Rattle.trace_view.specs.Json.{address_of, data_of, end_data, grant_of, kind_of, line_data, number_or_null, object_of, text_or_null}
use Rattle.trace_view.specs.Names.{object_name}
use Rattle.trace_view.specs.Picture.{hart_of}
use Rattle.trace_view.specs.Words.{step_words}

number_whole : (n : Option ℕ) → has_float (number_or_null n) ≡ false
number_whole None = refl
number_whole (Some n) = refl

text_whole : (t : Option (List ℕ)) → has_float (text_or_null t) ≡ false
text_whole None = refl
text_whole (Some t) = refl

line_whole : (address : Option ℕ) (kind : List ℕ) (grant hart : Option ℕ) (name : Option (List ℕ)) (row : ℕ) (serial : Option ℕ) (words : List ℕ)
    → has_float (line_data address kind grant hart name row serial words) ≡ false
line_whole address kind grant hart name row serial words =
    rw (number_whole address, number_whole grant, number_whole hart, text_whole name, number_whole serial)

pub data_whole : (members : List Member) (step : Step) → has_float (data_of members step) ≡ false
unfolding data_of
data_whole members step =
    line_whole (address_of step.event) (kind_of step.event) (grant_of step.event) (hart_of step) (option_map (object_name members) (object_of step)) step.row
    (object_of step) (step_words members step)

pub end_whole : (words : List ℕ) → has_float (end_data words) ≡ false
unfolding end_data
end_whole words = refl
