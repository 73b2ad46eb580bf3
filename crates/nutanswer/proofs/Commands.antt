-- What is proved of each command, a case each: what its row says, and that the data it answers are
-- fresh.
use Rattle.std.proofs.Common.{◌≡◌, ◌≤◌, ℕ, true, List, [], ◌∷◌, Option, Some}
use Rattle.std.proofs.Common.{None, Result, Ok, Err, refl, ap, ◌&&◌, length, inl, inr, arith}
use Rattle.std.specs.Prelude.{codes, IsTrue}
use Rattle.std.proofs.lemmas.Bool.{leb-true, and_parts}
use Rattle.nutwords.specs.Frame.{line_of}
use Rattle.nuttracking.specs.Tracking.{next_id}
use Rattle.nutdriver.specs.Variable.{VariableState}
use Rattle.nutdriver.specs.Tree.{variable_at, has_command}
use Rattle.nutlisting.specs.Items.{is_rw, ups_item, variable_item, command_item, enum_item, range_item, client_item}
use Rattle.nutusers.specs.declared.rights.Right.TheVariants as rights
use Rattle.nutcommand.specs.declared.command.Command.{Command}
use Rattle.nutcommand.specs.declared.command.Command.TheVariants as commands
use Rattle.nutcommand.specs.declared.err_word.ErrWord.{ErrWord}
use Rattle.nutcommand.specs.declared.err_word.ErrWord.TheVariants as errors
use Rattle.nutanswer.specs.declared.reply.Change.{Change}
use Rattle.nutanswer.specs.declared.reply.Change.TheVariants as changes
use Rattle.nutcommand.specs.ErrWord.{error_line}
use Rattle.nutanswer.specs.View.{Seen, AskerSeen, usable, readiness}
use Rattle.nutanswer.specs.Checks.{◌>>=◌, ◌>>◌, KnownUps, ups_named, user, var_not_lawful}
use Rattle.nutanswer.specs.Checks.{cmd_not_lawful, already_set_username, already_set_password}
use Rattle.nutanswer.specs.Checks.{already_logged_in, readonly, command_value, invalid_value}
use Rattle.nutanswer.specs.Checks.{order_id, set_failed, instcmd_failed, kept_progress, known_command}
use Rattle.nutanswer.specs.Orders.{is_short_enough, is_listed, is_in_ranges, right_to, set_line}
use Rattle.nutanswer.specs.Orders.{instcmd_line, order, ok_words, instcmd_right}
use Rattle.nutanswer.specs.Answer.{Answer, one_line, ok, description_at, answer_to, change_of_answer, text_of_answer}
use Rattle.nutanswer.specs.Rows.{HasRight, value_given, IsIdOfOrder, EachChangeComesOfItsCommand}
use Rattle.nutanswer.specs.Rows.{EachOrderAnsweredOkIsGiven}
use Rattle.nutanswer.specs.Laws.{OnlyOkChanges, RefusedLinesChangeNothing}
use Rattle.nutanswer.specs.Laws.{EachAnswerIsALineOrAListing, WhatIsAnsweredIsFresh}
use Rattle.nutwords.specs.Reading.{is_value, is_name, is_address}
use Rattle.std.proofs.lemmas.List.Elements.{All-filter}
use Rattle.nutdriver.specs.Sound.{IsSoundRange}
use Rattle.nutusers.specs.Descriptions.{text_at}
use Rattle.nutusers.specs.UpsList.{IsLawfulUps}
use Rattle.nutlisting.specs.Shown.{shown, description_of, text_or_unavailable}
use Rattle.nutanswer.proofs.CheckLemmas as checks
use Rattle.nutanswer.proofs.CheckLemmas.{unless_ok, none_given, has_right}
use Rattle.nutanswer.proofs.Fresh as fresh
use Rattle.nutanswer.proofs.Plain.{quoted_plain, type_plain, progress_plain}
use Rattle.nutlisting.specs.Lawful.{IsSoundEntry}
use Rattle.nutlisting.proofs.PublicLaws.{ids_are_lawful, texts_are_lawful}
use Rattle.nutlisting.specs.declared.lines.TheConstants.{SHOWN_LIMIT}
use Rattle.nutwords.specs.declared.limits.TheConstants.{VALUE_LIMIT}
use Rattle.nutanswer.proofs.Shapes.{listing_shaped, items_of, line_shaped, ok_shaped}
use Rattle.nutanswer.proofs.Shapes.{on_or_off_plain, progress_found, entry_item, command_inside}
use Rattle.nutanswer.proofs.Shapes.{enum_inside, range_inside, ups_inside, client_inside}
use Rattle.nutanswer.proofs.Shapes.{text_lawful, name_found, lawful_known, description_lawful}
use Rattle.nutanswer.proofs.Shapes.{lawful_found, variables_of, count_plain, lawful_clients}
use Rattle.nutanswer.proofs.TableRows.{IsRow, refused, tells, lists, lists_clients, does, orders}
use Rattle.nutanswer.proofs.TableRows.{held, found, of_ups, of_usable, of_variable}

-- SET VAR and INSTCMD, where their checks hold: what holds of each refusal, and of what the checks
-- let through, holds of the row
module _ (P : Result Answer ErrWord → Type 0) (no : (word : ErrWord) → P (Err word)) where
  -- SET VAR, where its checks hold
  abbrev SetGoes : Seen → AskerSeen → Option (List ℕ) → List ℕ → List ℕ →
      KnownUps → VariableState → Option ℕ → Type 0
  SetGoes s asker ups name value u x id =
      HasRight s asker rights.Set → ups_named s ups ≡ Some u →
      readiness s.moment s.max_age u.state.report ≡ usable
      → variable_at u.state.report.tree name ≡ Some x → x.flags.rw ≡ true → is_short_enough x value ≡ true
      → (is_listed x.enum_values value && is_in_ranges x.ranges value) ≡ true →
      IsIdOfOrder s asker id → length (set_line name value id) ≤ u.state.free
      → P (Ok (one_line (ok_words id) (order u.id (set_line name value id) id)))

  set_row : (s : Seen) (asker : AskerSeen) (ups : Option (List ℕ)) (name value : List ℕ)
      → ((u : KnownUps) (x : VariableState) (id : Option ℕ) →
      SetGoes s asker ups name value u x id) → P (answer_to s asker (commands.SetVar ups (Some name) (Some value)))
  set_row s asker ups name value goes =
      checks.held P no (user s asker rights.Set) _
      (λ right. checks.of_variable P no s ups name _ (λ u x named going there.
      checks.held P no (readonly x) _
      (λ writable. checks.tested P no (is_short_enough x value) errors.TooLong value _
      (λ short. checks.held P no (invalid_value x value) _ (λ may_be.
      checks.with_id P no s asker errors.SetFailed _
      (λ id id_is. checks.held P no (set_failed u (set_line name value id)) _ (λ fits.
      goes u x id (has_right s asker rights.Set right) named going there
      (unless_ok x.flags.rw errors.Readonly writable) short (unless_ok _ errors.InvalidValue may_be) id_is
      (leb-true _ _ (unless_ok _ errors.SetFailed fits)))))))))

  -- INSTCMD
  abbrev CommandGoes : Seen → AskerSeen → Option (List ℕ) → List ℕ →
      Option (List ℕ) → KnownUps → Option ℕ → Type 0
  CommandGoes s asker ups name value u id =
      HasRight s asker (right_to name) → ups_named s ups ≡ Some u →
      readiness s.moment s.max_age u.state.report ≡ usable
      → has_command u.state.report.tree name ≡ true → IsIdOfOrder s asker id →
      length (instcmd_line name value id) ≤ u.state.free
      → P (Ok (one_line (ok_words id) (order u.id (instcmd_line name value id) id)))

  command_row : (s : Seen) (asker : AskerSeen) (ups : Option (List ℕ)) (name : List ℕ) (value : Option (List ℕ))
      → ((u : KnownUps) (id : Option ℕ) → CommandGoes s asker ups name value u id) →
      P (answer_to s asker (commands.InstCmd ups (Some name) (value_given value)))
  command_row s asker ups name value goes =
      checks.held P no (user s asker (right_to name)) _ (λ right. checks.of_usable P no s ups _ (λ u named going.
      checks.tested P no (has_command u.state.report.tree name) errors.CmdNotSupported name _
      (λ there. by_value value u (λ id id_is fits. goes u id
      (has_right s asker (right_to name) right) named going there id_is fits))))
    where
      by_value : (value : Option (List ℕ)) (u : KnownUps) →
          ((id : Option ℕ) → IsIdOfOrder s asker id → length (instcmd_line name value id) ≤
          u.state.free → P (Ok (one_line (ok_words id) (order u.id (instcmd_line name value id) id))))
          → P (command_value (value_given value) >>=
          (λ v. order_id s asker errors.InstcmdFailed >>=
          (λ id. instcmd_failed u (instcmd_line name v id) >> Ok
          (one_line (ok_words id) (order u.id (instcmd_line name v id) id)))))
      by_value None u h = checks.with_id P no s asker errors.InstcmdFailed _
          (λ id id_is. checks.held P no (instcmd_failed u (instcmd_line name None id)) _
          (λ fits. h id id_is (leb-true _ _ (unless_ok _ errors.InstcmdFailed fits))))
      by_value (Some value) u h = checks.with_id P no s asker errors.InstcmdFailed _
          (λ id id_is. checks.held P no (instcmd_failed u (instcmd_line name (Some value) id)) _
          (λ fits. h id id_is (leb-true _ _ (unless_ok _ errors.InstcmdFailed fits))))

commanded : (s : Seen) (asker : AskerSeen) (ups : Option (List ℕ)) (name : List ℕ)
    (value : Option (List ℕ)) (u : KnownUps) (id : Option ℕ)
    → CommandGoes (IsRow s asker (commands.InstCmd ups (Some name) (value_given value))) refused s
    asker ups name value u id
commanded s asker ups name value u id right named going there id_is fits =
    orders u.id (instcmd_line name value id) id (λ e. inr (record {
      name = name;
      value = value;
      by_right = record { ups = ups; known = u; is = refl; named = named; this = refl; has = right; text = e };
      ready = going;
      there = there;
      id_is = id_is;
      fits = fits;
      line_is = refl;
    }))

-- the row of each
module _ (s : Seen) (asker : AskerSeen) where
  pub row : (command : Command) → IsRow s asker command (answer_to s asker command)
  row (commands.Username None) = held (already_set_username asker) (λ free. refused _)
  row (commands.Username (Some name)) = held (already_set_username asker)
      (λ free. does ok (changes.Username name) refl ok_shaped
      (λ e. record { is = refl; fresh = none_given asker.username errors.AlreadySetUsername free; text = e }))
  row (commands.Password None) = held (already_set_password asker) (λ free. refused _)
  row (commands.Password (Some word)) = held (already_set_password asker)
      (λ free. does ok (changes.Password word) refl ok_shaped
      (λ e. record { is = refl; fresh = none_given asker.password errors.AlreadySetPassword free; text = e }))
  row (commands.Login ups) =
      held (user s asker rights.Login)
      (λ right. of_ups ups (λ u named. held (already_logged_in asker)
      (λ free. does ok (changes.Login u.id) refl ok_shaped (λ e. record {
        by_right = record {
          ups = ups;
          known = u;
          is = refl;
          named = named;
          this = refl;
          has = has_right s asker rights.Login right;
          text = e;
        };
        fresh = none_given asker.login errors.AlreadyLoggedIn free;
      }))))
  row commands.Logout = does (codes "OK" ∷ codes "Goodbye" ∷ []) changes.Ending refl
      (line_shaped (codes "OK" ∷ codes "Goodbye" ∷ []) (refl, (refl, tt)) refl) (λ e. refl)
  row (commands.Primary ups) = held (user s asker rights.Primary)
      (λ right. of_ups ups (λ u named. tells ok refl (λ seen h. (refl, tt))))
  row (commands.Fsd ups) =
      held (user s asker rights.Fsd) (λ right. of_ups ups
      (λ u named. does (codes "OK" ∷ codes "FSD-SET" ∷ []) (changes.Fsd u.id) refl
      (line_shaped (codes "OK" ∷ codes "FSD-SET" ∷ []) (refl, (refl, tt)) refl)
      (λ e. record {
        ups = ups;
        known = u;
        is = refl;
        named = named;
        this = refl;
        has = has_right s asker rights.Fsd right;
        text = e;
      })))
  row (commands.SetVar ups None word) = held (user s asker rights.Set) (λ right. of_usable ups (λ u named. refused _))
  row (commands.SetVar ups (Some name) None) =
      held (user s asker rights.Set) (λ right. of_variable ups (Some name)
      (λ u v named is. held (readonly v.1) (λ writable. refused _)))
  row (commands.SetVar ups (Some name) (Some value)) =
      set_row (IsRow s asker (commands.SetVar ups (Some name) (Some value))) refused s asker ups name value
      (λ u x id right named going there writable short may_be id_is fits.
      let both = and_parts _ _ may_be in
      orders u.id (set_line name value id) id (λ e. inl (record {
        name = name;
        value = value;
        variable = x;
        by_right = record { ups = ups; known = u; is = refl; named = named; this = refl; has = right; text = e };
        ready = going;
        there = there;
        writable = writable;
        short = short;
        listed = both.0;
        in_range = both.1;
        id_is = id_is;
        fits = fits;
        line_is = refl;
      })))
  row (commands.InstCmd ups None word) =
      held (user s asker (right_to [])) (λ right. of_usable ups (λ u named. refused _))
  row (commands.InstCmd ups (Some name) (Some None)) =
      held (user s asker (right_to name))
      (λ right. of_usable ups (λ u named. found (known_command u (Some name)) (λ c is. refused _)))
  row (commands.InstCmd ups (Some name) None) =
      command_row (IsRow s asker (commands.InstCmd ups (Some name) None)) refused s asker ups name None
      (commanded s asker ups name None)
  row (commands.InstCmd ups (Some name) (Some (Some value))) =
      command_row (IsRow s asker (commands.InstCmd ups (Some name) (Some (Some value)))) refused s asker ups
      name (Some value) (commanded s asker ups name (Some value))
  row (commands.SetTracking on) = does ok (changes.Tracking on) refl ok_shaped (λ e. refl)
  row (commands.GetVar ups name) =
      of_variable ups name (λ u v named is. tells _ refl (λ seen h.
      let f = lawful_found s seen ups name u v h named is in (
        refl,
        (
          f.ups.name,
          (
            f.name,
            (
              quoted_plain SHOWN_LIMIT (shown u.state.fsd v.0 v.1)
                  (texts_are_lawful.shown u.state.fsd v.0 v.1 f.entry.1.value),
              tt,
            ),
          ),
        ),
      )))
  row (commands.GetType ups name) =
      of_variable ups name (λ u v named is. tells _ refl (λ seen h.
      let f = lawful_found s seen ups name u v h named is in
      (refl, (f.ups.name, (f.name, type_plain v.1 f.entry.1.aux)))))
  row (commands.GetDesc ups name) =
      of_ups ups (λ u named. found (var_not_lawful name) (λ v is. tells _ refl (λ seen h. (
        refl,
        (
          (lawful_known s seen ups u h.0 named).name,
          (
            name_found name errors.VarNotSupported v h.1 is,
            (
              quoted_plain VALUE_LIMIT (description_of (text_at s.descriptions.vars v))
                  (text_lawful s.descriptions.vars v seen.descriptions.vars),
              tt,
            ),
          ),
        ),
      ))))
  row (commands.GetCmdDesc ups name) =
      of_ups ups (λ u named. found (cmd_not_lawful name) (λ c is. tells _ refl (λ seen h. (
        refl,
        (
          (lawful_known s seen ups u h.0 named).name,
          (
            name_found name errors.CmdNotSupported c h.1 is,
            (
              quoted_plain VALUE_LIMIT (description_of (text_at s.descriptions.cmds c))
                  (text_lawful s.descriptions.cmds c seen.descriptions.cmds),
              tt,
            ),
          ),
        ),
      ))))
  row (commands.GetUpsDesc ups) =
      of_ups ups (λ u named. tells _ refl (λ seen h. (
        refl,
        (
          (lawful_known s seen ups u h named).name,
          (quoted_plain VALUE_LIMIT (text_or_unavailable (description_at s u.id)) (description_lawful s seen u.id), tt),
        ),
      )))
  row (commands.GetNumLogins ups) =
      of_ups ups (λ u named. tells _ refl (λ seen h. (refl, count_plain s seen ups u h named)))
  row (commands.GetNumAttach ups) =
      of_ups ups (λ u named. tells _ refl (λ seen h. (refl, count_plain s seen ups u h named)))
  row commands.GetTracking = tells _ refl (λ seen h. (refl, (on_or_off_plain asker.tracking, tt)))
  row (commands.GetProgress id) = found (kept_progress s id)
      (λ k is. tells _ refl (λ seen h.
      (refl, (ids_are_lawful.lawful k.0, progress_plain k.1 (progress_found s id k seen.numbers is)))))
  row commands.ListUps = lists _ (λ seen h. listing_shaped (codes "UPS") [] _ (refl, tt)
      (items_of IsLawfulUps ups_item ups_inside s.list seen.list))
  row (commands.ListVar ups) =
      of_usable ups (λ u named. lists _ (λ seen h.
      let k = lawful_known s seen ups u h named in
      listing_shaped (codes "VAR") (u.name ∷ []) _ (refl, (k.name, tt))
      (items_of IsSoundEntry (variable_item (codes "VAR") u.name u.state.fsd)
      (entry_item (codes "VAR") u.name u.state.fsd refl k.name (λ name text. refl)) _ (variables_of s seen u k))))
  row (commands.ListRw ups) =
      of_usable ups (λ u named. lists _ (λ seen h.
      let k = lawful_known s seen ups u h named in
      listing_shaped (codes "RW") (u.name ∷ []) _ (refl, (k.name, tt))
      (items_of IsSoundEntry (variable_item (codes "RW") u.name u.state.fsd)
      (entry_item (codes "RW") u.name u.state.fsd refl k.name (λ name text. refl)) _
      (All-filter is_rw IsSoundEntry _ (variables_of s seen u k)))))
  row (commands.ListCmd ups) =
      of_usable ups (λ u named. lists _ (λ seen h.
      let k = lawful_known s seen ups u h named in
      listing_shaped (codes "CMD") (u.name ∷ []) _ (refl, (k.name, tt))
      (items_of (λ name. IsTrue (is_name name)) (command_item u.name)
      (command_inside u.name k.name) _ k.tree.commands)))
  row (commands.ListEnum ups name) =
      of_variable ups name (λ u v named is. lists _ (λ seen h.
      let f = lawful_found s seen ups name u v h named is in
      listing_shaped (codes "ENUM") (u.name ∷ v.0 ∷ []) _ (refl, (f.ups.name, (f.name, tt)))
      (items_of (λ value. IsTrue (is_value value)) (enum_item u.name v.0)
      (enum_inside u.name v.0 f.ups.name f.name) v.1.enum_values f.entry.1.enum_values)))
  row (commands.ListRange ups name) =
      of_variable ups name (λ u v named is. lists _ (λ seen h.
      let f = lawful_found s seen ups name u v h named is in
      listing_shaped (codes "RANGE") (u.name ∷ v.0 ∷ []) _ (refl, (f.ups.name, (f.name, tt)))
      (items_of IsSoundRange (range_item u.name v.0) (range_inside u.name v.0 f.ups.name f.name)
      v.1.ranges f.entry.1.ranges)))
  row (commands.ListClient ups) =
      of_ups ups (λ u named. lists_clients _ (λ seen h.
      let k = lawful_known s seen ups u h named in
      listing_shaped (codes "CLIENT") (u.name ∷ []) _ (refl, (k.name, tt))
      (items_of (λ address. IsTrue (is_address address)) (client_item u.name)
      (client_inside u.name k.name) _ (lawful_clients s seen u))))
  row commands.Help = tells _ refl (λ seen h. (refl, tt))
  row commands.Ver = tells _ refl (λ seen h. (refl, tt))
  row commands.NetVer = tells _ refl (λ seen h. (refl, tt))
  row commands.ProtVer = tells _ refl (λ seen h. (refl, tt))
  row commands.StartTls = refused _

pub each_change : EachChangeComesOfItsCommand
each_change s asker command = (row s asker command).comes refl

pub only_ok : OnlyOkChanges
only_ok s asker command h = (row s asker command).by_ok h

pub refused_none : RefusedLinesChangeNothing
refused_none s asker command word e = ap change_of_answer e

pub each_answer_shaped : EachAnswerIsALineOrAListing
each_answer_shaped s asker command seen lawful = (row s asker command).shape seen lawful

-- an order that these words answer is given
abbrev OrdersIfOk : List (List ℕ) → Change → Result Answer ErrWord → Type 0
OrdersIfOk words change answer = text_of_answer answer ≡ line_of words → change_of_answer answer ≡ change

one_ups : (o : Option KnownUps) (k l : KnownUps) → o ≡ Some k → o ≡ Some l → k ≡ l
one_ups o k l e f = cc

module _ (s : Seen) (asker : AskerSeen) (u known : KnownUps) (same : u ≡ known) (line : Option ℕ → List ℕ) where
  -- the bare OK
  untracked : (id : Option ℕ) →
      OrdersIfOk ok (order known.id (line None) None) (Ok (one_line (ok_words id) (order u.id (line id) id)))
  untracked None e = cc
  untracked (Some id) e = cc e

  -- OK and the first available id
  tracked : (id : ℕ) → next_id s.tracking ≡ Some id → (used : Option ℕ) → IsIdOfOrder s asker used
      → OrdersIfOk (ok_words (Some id)) (order known.id (line (Some id)) (Some id))
      (Ok (one_line (ok_words used) (order u.id (line used) used)))
  tracked id next None is e = cc e
  tracked id next (Some used) is e = cc (same, is.1, next)

-- and no error is such a line
abbrev first_of : List ℕ → ℕ
first_of [] = 0
first_of (b ∷ bytes) = b

no_error : (word : ErrWord) (id : ℕ) → error_line word ≡ line_of (ok_words (Some id)) → ⊥
no_error word id e = let first : 69 ≡ 79 = ap first_of e in omega (arith, first)

pub ok_orders : EachOrderAnsweredOkIsGiven
ok_orders = record {
  set = λ s asker ups name value known named.
      set_row (OrdersIfOk ok (order known.id (set_line name value None) None)) (λ word e. cc e) s asker ups name value
      (λ u x id right found going there writable short may_be id_is fits. untracked s asker u known
      (one_ups (ups_named s ups) u known found named) (λ id. set_line name value id) id);
  command = λ s asker ups name value known named.
      command_row (OrdersIfOk ok (order known.id (instcmd_line name value None) None))
      (λ word e. cc e) s asker ups name value
      (λ u id right found going there id_is fits. untracked s asker u known
      (one_ups (ups_named s ups) u known found named) (λ id. instcmd_line name value id) id);
  tracked_set = λ s asker ups name value known id named next.
      set_row (OrdersIfOk (ok_words (Some id))
      (order known.id (set_line name value (Some id)) (Some id)))
      (λ word e. absurd (no_error word id e)) s asker ups name value
      (λ u x used right found going there writable short may_be id_is fits. tracked s asker u known
      (one_ups (ups_named s ups) u known found named) (λ id. set_line name value id) id next used id_is);
  tracked_command = λ s asker ups name value known id named next.
      command_row (OrdersIfOk (ok_words (Some id))
      (order known.id (instcmd_line name value (Some id)) (Some id)))
      (λ word e. absurd (no_error word id e)) s asker ups name value
      (λ u used right found going there id_is fits. tracked s asker u known
      (one_ups (ups_named s ups) u known found named) (λ id. instcmd_line name value id) id next used id_is);
}

-- the data of a UPS that are answered are fresh
pub answered_fresh : WhatIsAnsweredIsFresh
answered_fresh s asker (commands.SetVar ups name value) other answer h e =
    fresh.moved s ups other _ h (checks.held (fresh.AnswersFresh s ups) (fresh.no_answer s ups)
    (user s asker rights.Set) _ (λ right. fresh.row s ups _)) answer e
answered_fresh s asker (commands.InstCmd ups name value) other answer h e =
    fresh.moved s ups other _ h (checks.held (fresh.AnswersFresh s ups) (fresh.no_answer s ups)
    (user s asker (instcmd_right name)) _ (λ right. fresh.row s ups _)) answer e
answered_fresh s asker (commands.GetVar ups name) other answer h e =
    fresh.moved s ups other _ h (fresh.row s ups _) answer e
answered_fresh s asker (commands.GetType ups name) other answer h e =
    fresh.moved s ups other _ h (fresh.row s ups _) answer e
answered_fresh s asker (commands.ListVar ups) other answer h e =
    fresh.moved s ups other _ h (fresh.row s ups _) answer e
answered_fresh s asker (commands.ListRw ups) other answer h e = fresh.moved s ups other _ h (fresh.row s ups _) answer e
answered_fresh s asker (commands.ListCmd ups) other answer h e =
    fresh.moved s ups other _ h (fresh.row s ups _) answer e
answered_fresh s asker (commands.ListEnum ups name) other answer h e =
    fresh.moved s ups other _ h (fresh.row s ups _) answer e
answered_fresh s asker (commands.ListRange ups name) other answer h e =
    fresh.moved s ups other _ h (fresh.row s ups _) answer e
answered_fresh s asker command other answer h e = cc h
