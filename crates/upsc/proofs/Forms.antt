-- What each form of the words asks for, by computation.
use Rattle.std.proofs.Common.{◌≡◌, ◌∙◌, Bool, true, false, List, [], ◌∷◌, Option}
use Rattle.std.proofs.Common.{Some, None, ap, codes, refl}
use Rattle.clap.proofs.OnLiterals.{clap_on_literals}
use Rattle.clap.proofs.WalkLemmas.{first_value-rows}
use Rattle.clap.specs.Words.{App, Text, fault_of, first_of, found_of, is_simple, matches_of, one_of}
use Rattle.nutargs.specs.Words.{program_with}
use Rattle.nutargs.proofs.Flags.{flag, flag_text}
use Rattle.nutclient.specs.Ending.{name_of}
use Rattle.nutclient.specs.declared.program.Program.TheVariants.{Upsc}
use Rattle.upsc.specs.Forms.{Asks, EachFormAsksForItsJob, an_id}
use Rattle.upsc.specs.Words.{asked, upsc_words}

abbrev app : App
app = program_with (name_of Upsc) upsc_words

simple : is_simple app ≡ true
unfolding clap_on_literals
simple = refl

-- a form by what is found in its words
form : (words : List Text) (l L c attached : Bool) (id name ups : Option Text)
    → fault_of app (codes "upsc" ∷ words) ≡ []
    → one_of (codes "l") (matches_of app (codes "upsc" ∷ words)) ≡ Some (flag_text l)
    → one_of (codes "L") (matches_of app (codes "upsc" ∷ words)) ≡ Some (flag_text L)
    → one_of (codes "c") (matches_of app (codes "upsc" ∷ words)) ≡ Some (flag_text c)
    → one_of (codes "attached") (matches_of app (codes "upsc" ∷ words)) ≡ Some (flag_text attached)
    → first_of (codes "tracked") (matches_of app (codes "upsc" ∷ words)) ≡ id
    → first_of (codes "VAR") (matches_of app (codes "upsc" ∷ words)) ≡ name
    → first_of (codes "UPS") (matches_of app (codes "upsc" ∷ words)) ≡ ups
    → Asks words (asked l L c attached id name ups)
form words l L c attached id name ups taken is_l is_L is_c is_attached is_id is_name is_ups = (
  taken,
  λ found job matches by.
      let rows = (matches simple).0 in
      let value = λ (key : Text). first_value-rows (found_of found) key ∙ ap (first_of key) rows in
      by.8 ∙ to_same (flag found (codes "l") by.0 l _ rows is_l by.4) (flag found (codes "L") by.1 L _ rows is_L by.5)
      (flag found (codes "c") by.2 c _ rows is_c by.6)
      (flag found (codes "attached") by.3 attached _ rows is_attached by.7)
      (value (codes "tracked") ∙ is_id) (value (codes "VAR") ∙ is_name) (value (codes "UPS") ∙ is_ups),
)
  where
    to_same : {l' L' c' attached' : Bool} {id' name' ups' : Option Text} → l' ≡ l → L' ≡
        L → c' ≡ c → attached' ≡ attached
        → id' ≡ id → name' ≡ name → ups' ≡ ups
        → asked l' L' c' attached' id' name' ups' ≡ asked l L c attached id name ups
    to_same a b d e f g h = cc

pub each_form : EachFormAsksForItsJob
unfolding clap_on_literals
each_form = record {
  variables = form (codes "su" ∷ []) false false false false None None (Some (codes "su")) refl
      refl refl refl refl refl refl refl;
  variable = form (codes "su@host:3494" ∷ codes "ups.status" ∷ []) false false false false None
      (Some (codes "ups.status"))
      (Some (codes "su@host:3494")) refl refl refl refl refl refl refl refl;
  upses = form (codes "-l" ∷ codes "host" ∷ []) true false false false None None (Some (codes "host"))
      refl refl refl refl refl refl refl refl;
  local_upses = form (codes "-l" ∷ []) true false false false None None None refl refl refl refl refl refl refl refl;
  descriptions = form (codes "-L" ∷ codes "host" ∷ []) false true false false None None (Some (codes "host"))
      refl refl refl refl refl refl refl refl;
  clients = form (codes "-c" ∷ codes "su" ∷ []) false false true false None None (Some (codes "su"))
      refl refl refl refl refl refl refl refl;
  attached = form (codes "--attached" ∷ codes "su" ∷ []) false false false true None None (Some (codes "su"))
      refl refl refl refl refl refl refl refl;
  tracked = form (codes "--tracked" ∷ an_id ∷ codes "su" ∷ []) false false false false (Some an_id) None
      (Some (codes "su")) refl refl refl refl refl refl refl refl;
  two_forms = form (codes "-l" ∷ codes "-c" ∷ codes "su" ∷ []) true false true false None None (Some (codes "su"))
      refl refl refl refl refl refl refl refl;
  no_ups = form (codes "-c" ∷ []) false false true false None None None refl refl refl refl refl refl refl refl;
}
