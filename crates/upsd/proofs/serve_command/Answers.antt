use Rattle.std.proofs.Common.{◌≡◌, ◌∙◌, ap, codes, subst, IfOk}
use Rattle.clap.specs.Simple.{app_of_fields}
use Rattle.clap.specs.Words.{app_of, new_app}
use Rattle.nutargs.specs.Words.{explained, with_words}
use Rattle.upsd.specs.Words.{serve_words}
use Rattle.upsd.proofs.serve_command.Goals as goal

pub returns : goal.returns
returns c =
    let begun : app_of c.after_help-serve.result ≡ new_app (codes "serve") =
    ap app_of_fields c.after_help-serve.ensures ∙ ap app_of_fields c.about.ensures ∙ c.new.ensures.app in
    let made = subst (λ a. app_of c.in_ok-with_words.field-0 ≡ with_words a serve_words) begun
    c.in_ok-with_words.ensures in
    subst (λ a. IfOk c.with_explain.result (λ whole. app_of whole ≡ explained a)) made c.with_explain.ensures
