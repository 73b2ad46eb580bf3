use Rattle.std.proofs.Common.{[], ◌∷◌, Ok, refl, ap, inl, inr}
use Rattle.std.specs.Prelude.{codes}
use Rattle.nutanswer.specs.View.{Seen, asker_seen}
use Rattle.nutanswer.specs.declared.reply.Change.TheVariants.{Ending}
use Rattle.nutanswer.specs.Answer.{answer_to, help_text}
use Rattle.nutanswer.specs.Promises.{GivesReply}
use Rattle.nutanswer.proofs.Carried.{given, given_seen, given_listing, ups_listed, own, own_line}
use Rattle.nutanswer.proofs.answers.answer.Goals as goal
use Rattle.nutanswer.proofs.answers.answer.Goals.{in-Username, in-Password, in-Login, in-Logout}
use Rattle.nutanswer.proofs.answers.answer.Goals.{in-Primary, in-Fsd, in-SetVar, in-InstCmd}
use Rattle.nutanswer.proofs.answers.answer.Goals.{in-SetTracking, in-GetVar, in-GetType, in-GetDesc}
use Rattle.nutanswer.proofs.answers.answer.Goals.{in-GetCmdDesc, in-GetUpsDesc, in-GetNumLogins}
use Rattle.nutanswer.proofs.answers.answer.Goals.{in-GetNumAttach, in-GetTracking, in-GetProgress}
use Rattle.nutanswer.proofs.answers.answer.Goals.{in-ListClient, in-Help, in-Ver, in-StartTls}
use Rattle.nutanswer.proofs.answers.answer.Goals.{in-NetVer, in-Ok, in-Err}

pub plain-row-requires : goal.plain-row-requires
plain-row-requires g c = own_line help_text refl refl

pub plain-row-requires-in-Ver : goal.plain-row-requires-in-Ver
plain-row-requires-in-Ver g c = own_line (codes "Network UPS Tools upsd, profile 1") refl refl

pub plain-row-requires-in-NetVer : goal.plain-row-requires-in-NetVer
plain-row-requires-in-NetVer g c = own_line (codes "1.3") refl refl

pub returns-clause-ok : goal.returns-clause-ok
returns-clause-ok g c =
    let s = c.args.view.now in
    let a = asker_seen c.args.asker in
    let row : GivesReply s (answer_to s a c.args.command.now) c.match-command.row = elim c.match-command.branch [
      | in-Username w ↦ given s a _ _ _ _ w.in-Username.is w.row-is (w.username-row.ensures s)
      | in-Password w ↦ given s a _ _ _ _ w.in-Password.is w.row-is (w.password-row.ensures s)
      | in-Login w ↦ given s a _ _ _ _ w.in-Login.is w.row-is w.login-row.ensures
      | in-Logout w ↦ given s a _ _ _ _ w.in-Logout.is w.row-is
          (own (codes "OK Goodbye") (codes "OK" ∷ codes "Goodbye" ∷ []) Ending refl
          (own_line (codes "OK Goodbye") refl refl))
      | in-Primary w ↦ given s a _ _ _ _ w.in-Primary.is w.row-is w.primary-row.ensures
      | in-Fsd w ↦ given s a _ _ _ _ w.in-Fsd.is w.row-is w.fsd-row.ensures
      | in-SetVar w ↦ given s a _ _ _ _ w.in-SetVar.is w.row-is w.set_var-row.ensures
      | in-InstCmd w ↦ given s a _ _ _ _ w.in-InstCmd.is w.row-is w.inst_cmd-row.ensures
      | in-SetTracking w ↦ given s a _ _ _ _ w.in-SetTracking.is w.row-is w.ok.ensures
      | in-GetVar w ↦ given s a _ _ _ _ w.in-GetVar.is w.row-is (w.made-row.ensures _ w.get_var.ensures)
      | in-GetType w ↦ given s a _ _ _ _ w.in-GetType.is w.row-is (w.made-row-in-GetType.ensures _ w.get_type.ensures)
      | in-GetDesc w ↦ given s a _ _ _ _ w.in-GetDesc.is w.row-is (w.made-row-in-GetDesc.ensures _ w.get_desc.ensures)
      | in-GetCmdDesc w ↦ given s a _ _ _ _ w.in-GetCmdDesc.is w.row-is
          (w.made-row-in-GetCmdDesc.ensures _ w.get_cmd_desc.ensures)
      | in-GetUpsDesc w ↦ given s a _ _ _ _ w.in-GetUpsDesc.is w.row-is
          (w.made-row-in-GetUpsDesc.ensures _ w.get_ups_desc.ensures)
      | in-GetNumLogins w ↦ given s a _ _ _ _ w.in-GetNumLogins.is w.row-is
          (w.made-row-in-GetNumLogins.ensures _ w.num_logins.ensures)
      | in-GetNumAttach w ↦ given s a _ _ _ _ w.in-GetNumAttach.is w.row-is
          (w.made-row-in-GetNumAttach.ensures _ w.num_logins-in-GetNumAttach.ensures)
      | in-GetTracking w ↦ given s a _ _ _ _ w.in-GetTracking.is w.row-is (w.get_tracking-row.ensures s)
      | in-GetProgress w ↦ given s a _ _ _ _ w.in-GetProgress.is w.row-is
          (w.made-row-in-GetProgress.ensures _ w.progress.ensures)
      | in-Help w ↦ given s a _ _ _ _ w.in-Help.is w.row-is (w.plain-row.ensures (help_text ∷ []) refl)
      | in-Ver w ↦ given s a _ _ _ _ w.in-Ver.is w.row-is
          (w.plain-row-in-Ver.ensures (codes "Network UPS Tools upsd, profile 1" ∷ []) refl)
      | in-NetVer w ↦ elim w.in-NetVer.is [
        | inl is ↦ given s a _ _ _ _ is w.row-is (w.plain-row-in-NetVer.ensures (codes "1.3" ∷ []) refl)
        | inr is ↦ given s a _ _ _ _ is w.row-is (w.plain-row-in-NetVer.ensures (codes "1.3" ∷ []) refl)
      ]
      | in-StartTls w ↦ given s a _ _ _ _ w.in-StartTls.is w.row-is refl
      | in-ListClient w ↦ given_seen s a _ _ _ _ w.in-ListClient.is w.row-is w.list_client-row.ensures
    ] in
    elim c.match-row.branch [
      | in-Ok w ↦ rw w.result-is (rw w.in-Ok.is at row)
      | in-Err w ↦ rw w.result-is (rw w.in-Err.is at row)
    ]

pub returns-in-ListUps-clause-ok : goal.returns-in-ListUps-clause-ok
returns-in-ListUps-clause-ok g c =
    let s = c.args.view.now in
    let a = asker_seen c.args.asker in
    let list = ap (λ (v : Seen). v.list) c.view.view_is in
    c.listed.ensures.ok s _ (given_listing s a _ _ (Ok c.of_upses.result) c.in-ListUps.is
    (ups_listed s a c.view.inside.list.now c.of_upses.result list c.of_upses.ensures))

pub returns-in-ListVar-clause-ok : goal.returns-in-ListVar-clause-ok
returns-in-ListVar-clause-ok g c =
    let s = c.args.view.now in
    c.listed-in-ListVar.ensures.ok s _
    (given_listing s (asker_seen c.args.asker) _ _ _ c.in-ListVar.is c.list_var.ensures)

pub returns-in-ListRw-clause-ok : goal.returns-in-ListRw-clause-ok
returns-in-ListRw-clause-ok g c =
    let s = c.args.view.now in
    c.listed-in-ListRw.ensures.ok s _ (given_listing s (asker_seen c.args.asker) _ _ _ c.in-ListRw.is c.list_rw.ensures)

pub returns-in-ListCmd-clause-ok : goal.returns-in-ListCmd-clause-ok
returns-in-ListCmd-clause-ok g c =
    let s = c.args.view.now in
    c.listed-in-ListCmd.ensures.ok s _
    (given_listing s (asker_seen c.args.asker) _ _ _ c.in-ListCmd.is c.list_cmd.ensures)

pub returns-in-ListEnum-clause-ok : goal.returns-in-ListEnum-clause-ok
returns-in-ListEnum-clause-ok g c =
    let s = c.args.view.now in
    c.listed-in-ListEnum.ensures.ok s _
    (given_listing s (asker_seen c.args.asker) _ _ _ c.in-ListEnum.is c.list_enum.ensures)

pub returns-in-ListRange-clause-ok : goal.returns-in-ListRange-clause-ok
returns-in-ListRange-clause-ok g c =
    let s = c.args.view.now in
    c.listed-in-ListRange.ensures.ok s _
    (given_listing s (asker_seen c.args.asker) _ _ _ c.in-ListRange.is c.list_range.ensures)
