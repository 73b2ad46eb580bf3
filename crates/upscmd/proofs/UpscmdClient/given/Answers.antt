use Rattle.std.proofs.Common.{◌≡◌, ◌∙◌, Bool, List, None, Option, Some, ap, false, refl, sym, ℕ}
use Rattle.std.specs.Prelude.{is_some, option_and_then}
use Rattle.std.specs.Borrow.{Bor}
use Rattle.clap.specs.Words.{Text}
use Rattle.nutclient.specs.Job.{JobParts, text_in}
use Rattle.upscmd.specs.Words.{asked}
use Rattle.upscmd.proofs.UpscmdClient.given.Goals as goal

same : (lists track : Bool) {user user' password password' name name' value value' file ups : Option Text} {u : Text}
    {job : Option JobParts} → job ≡ asked lists track None user password name value u
    → user ≡ user' → password ≡ password' → name ≡ name' → value ≡ value' →
    None ≡ file → Some u ≡ ups
    → job ≡ option_and_then (asked lists track file user' password' name' value') ups
same lists track e a b c d f u = cc

no_text : (file : Option (Bor (List ℕ))) → is_some file ≡ false → None ≡ text_in file
no_text None h = refl
no_text (Some text) h = cc

pub returns : goal.returns
returns c = (
  c.get_flag-lists.result,
  c.get_flag-track.result,
  (c.get_flag-lists.ensures.none, c.get_flag-lists.ensures.value, c.get_flag-lists.ensures.other),
  (c.get_flag-track.ensures.none, c.get_flag-track.ensures.value, c.get_flag-track.ensures.other),
  same c.get_flag-lists.result c.get_flag-track.result c.asked.ensures
      c.get_str-user.ensures c.get_str-password.ensures c.get_str-name.ensures c.get_str-value.ensures
      (no_text c.get_str-2.result (sym c.is_some.ensures ∙ c.if-is_some.false) ∙ c.get_str-2.ensures)
      (sym (ap text_in c.in_ok-ups.was) ∙ c.get_str.ensures),
)
