use Rattle.std.proofs.Common.{◌≡◌, ◌∙◌, ap, ap₂, subst, map, string_bytes, true, IfOk}
use Rattle.clap.specs.Simple.{app_of_fields, on_top}
use Rattle.clap.specs.Words.{App, FailsBy, HasMatchesOf, app_of, fault_of, is_simple_and_free}
use Rattle.nutargs.specs.Words.{explained, program_of, with_words}
use Rattle.nutclient.specs.Ending.{name_of}
use Rattle.nutclient.proofs.start.matches_of.Goals as goal

abbrev versioned : App → App
versioned = on_top (λ s. record s { has_version = true })

pub returns : goal.returns
returns g c =
    let name = ap program_of (c.name-name.ensures.value ∙ ap name_of c.PROGRAM.ensures) in
    let begun = ap app_of_fields c.about.ensures ∙ c.new.ensures.app in
    let described = ap app_of_fields c.after_help.ensures ∙ ap app_of_fields c.version.ensures ∙
    ap versioned begun in
    let named : app_of c.in_ok-command.command ≡ program_of (name_of g.C.Client.PROGRAM) =
    ap app_of_fields c.in_ok-command.ensures.0 ∙ described ∙ name in
    let table = c.in_ok-command-2.ensures ∙ ap₂ with_words named c.words.ensures.table in
    let taken = c.in_ok-with_explain.ensures ∙ ap explained table in
    let result = c.try_get_matches_from.result in
    let words = map string_bytes c.args.words.now in
    record {
      matches = subst (λ (a : App). IfOk result (HasMatchesOf a words)) taken c.try_get_matches_from.ensures.matches;
      fails = subst (λ (a : App). is_simple_and_free a ≡ true →
          FailsBy (fault_of a words) result) taken c.try_get_matches_from.ensures.kinds c.words.ensures.free;
    }
