use Rattle.nutrequest.specs.declared.request.Query.TheVariants as queries
use Rattle.nuttracking.specs.Id.{read_id}
use Rattle.nutclient.specs.Job.{server_or_local, text_in}
use Rattle.nutclient.specs.Target.{ups_place_of}
use Rattle.nutclient.specs.declared.form.Form.TheVariants as forms
use Rattle.endtoend.proofs.Handing.{place_lawful, name_asked, asks_listing, asks_variable}
use Rattle.endtoend.proofs.Handing.{asks_number, asks_tracked, asks_upses, handed}
use Rattle.endtoend.proofs.program.print_what_is_held.Goals as goal

pub returns-clause-variables : goal.returns-clause-variables
returns-clause-variables g c = λ s client words place line known more job at usable sent h.
    handed _ _ _ _ _ c.args.job.now _ _ _ _ _ c.run.ensures.printed
    (asks_listing (λ u. queries.Var u) forms.Colon (ups_place_of words.now) place c.args.job.now job at)
    (c.upsc_prints_the_variables.ensures s client place.0 line known more
    (place_lawful words.now place at) usable sent) h

pub returns-clause-variable : goal.returns-clause-variable
returns-clause-variable g c = λ s client words name place line known variable more job at usable has sent h.
    handed _ _ _ _ _ c.args.job.now _ _ _ _ _ c.run.ensures.printed
    (asks_variable (ups_place_of words.now) name.now place c.args.job.now job at
    (name_asked (ups_place_of words.now) name.now c.args.job.now job))
    (c.upsc_prints_the_variable.ensures s client place.0 name.now line known variable more
    (place_lawful words.now place at)
    (name_asked (ups_place_of words.now) name.now c.args.job.now job) usable has sent) h

pub returns-clause-number : goal.returns-clause-number
returns-clause-number g c = λ s client words place line known more job at few named sent h.
    handed _ _ _ _ _ c.args.job.now _ _ _ _ _ c.run.ensures.printed
    (asks_number (ups_place_of words.now) place c.args.job.now job at)
    (c.upsc_prints_who_is_logged_in.ensures.number s client place.0 line known more few
    (place_lawful words.now place at) named sent) h

pub returns-clause-progress : goal.returns-clause-progress
returns-clause-progress g c = λ s client words word id line progress more job is lawful at sent h.
    handed _ _ _ _ _ c.args.job.now _ _ _ _ _ c.run.ensures.printed
    (asks_tracked (ups_place_of words.now) (read_id word.now) id c.args.job.now job is)
    (c.upsc_prints_how_far_an_order_has_come.ensures.known s client id word.now line progress more is lawful at sent) h

pub returns-clause-settings : goal.returns-clause-settings
returns-clause-settings g c = λ s client words place line known more job at usable sent h.
    handed _ _ _ _ _ c.args.job.now _ _ _ _ _ c.run.ensures.printed
    (asks_listing (λ u. queries.Rw u) forms.Equals (ups_place_of words.now) place c.args.job.now job at)
    (c.upsrw_prints_the_variables.ensures s client place.0 line known more
    (place_lawful words.now place at) usable sent) h

pub returns-clause-commands : goal.returns-clause-commands
returns-clause-commands g c = λ s client words place line known more job at usable sent h.
    handed _ _ _ _ _ c.args.job.now _ _ _ _ _ c.run.ensures.printed
    (asks_listing (λ u. queries.Cmd u) forms.Name (ups_place_of words.now) place c.args.job.now job at)
    (c.upscmd_prints_the_commands.ensures s client place.0 line known more
    (place_lawful words.now place at) usable sent) h

pub returns-clause-names : goal.returns-clause-names
returns-clause-names g c = λ s client server line more job lawful sent h.
    handed _ _ _ _ _ c.args.job.now _ _ _ _ _ c.run.ensures.printed
    (asks_upses forms.Name (server_or_local (text_in server)) c.args.job.now job)
    (c.upsc_prints_the_upses.ensures s client line more lawful sent).names h

pub returns-clause-descriptions : goal.returns-clause-descriptions
returns-clause-descriptions g c = λ s client server line more job lawful sent h.
    handed _ _ _ _ _ c.args.job.now _ _ _ _ _ c.run.ensures.printed
    (asks_upses forms.Colon (server_or_local (text_in server)) c.args.job.now job)
    (c.upsc_prints_the_upses.ensures s client line more lawful sent).descriptions h
