use Rattle.std.proofs.Common.{◌≡◌, ◌∙◌, ap, ap₂, subst, refl, true, codes, map, string_bytes, IfOk}
use Rattle.clap.proofs.OnLiterals.{clap_on_literals}
use Rattle.clap.specs.Simple.{app_of_fields}
use Rattle.clap.specs.Words.{App, FailsBy, HasMatchesOf, app_of, fault_of, is_simple_and_free, new_app, with_subcommand}
use Rattle.upsd.specs.Words.{upsd_app}
use Rattle.upsd.proofs.Commands.{third_not, versioned, with_one_demanded}
use Rattle.upsd.proofs.matches_of.Goals as goal

is_free : is_simple_and_free upsd_app ≡ true
unfolding clap_on_literals
is_free = refl

pub returns : goal.returns
returns c =
    let about : app_of c.about.result ≡ new_app (codes "upsd") =
    ap app_of_fields c.about.ensures ∙ c.new.ensures.app in
    let begun = ap app_of_fields c.subcommand_required.ensures
    ∙ ap with_one_demanded (ap app_of_fields c.version.ensures ∙ ap versioned about) in
    let is_plain = λ (a : App). a.top.is_plain in
    let top = λ (a : App). a.top in
    let serve = c.in_ok-serve_command.ensures in
    let replay = c.in_ok-replay_command.ensures in
    let one = c.in_ok-subcommand.ensures.shape (third_not _ _ _ _ (ap is_plain serve))
    ∙ ap₂ with_subcommand begun (ap top serve) in
    let upsd : app_of c.in_ok-upsd.upsd ≡ upsd_app =
    c.in_ok-upsd.ensures.shape (third_not _ _ _ _ (ap is_plain replay)) ∙ ap₂ with_subcommand one (ap top replay) in
    let result = c.try_get_matches_from.result in
    let words = map string_bytes c.args.words.now in
    record {
      matches = subst (λ (a : App). IfOk result (HasMatchesOf a words)) upsd c.try_get_matches_from.ensures.matches;
      fails = subst (λ (a : App). is_simple_and_free a ≡ true →
          FailsBy (fault_of a words) result) upsd c.try_get_matches_from.ensures.kinds is_free;
    }
