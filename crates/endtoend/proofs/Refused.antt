-- What a client makes of a server's refusal, and of an order's OK.
use Rattle.std.proofs.Common.{◌≡◌, ◌∙◌, ◌<◌, ◌≤◌, ℕ, true, List, []}
use Rattle.std.proofs.Common.{◌∷◌, ◌++◌, length, length-append, None, refl, ap, arith}
use Rattle.std.specs.Prelude.{codes, IsTrue}
use Rattle.std.specs.List.{list_all}
use Rattle.nutwords.specs.Bytes.{is_bare}
use Rattle.nutwords.specs.Frame.{line_of}
use Rattle.nutwords.specs.Listing.{as_it_is, IsWrittenLine}
use Rattle.nutcommand.specs.ErrWord.{error_line, spelling_of}
use Rattle.nutcommand.specs.declared.err_word.ErrWord.{ErrWord}
use Rattle.nutcommand.specs.declared.err_word.ErrWord.TheVariants as errors
use Rattle.nutrequest.specs.declared.request.Request.{Request}
use Rattle.nutrequest.specs.declared.request.Request.TheVariants.{List as ListOf, GetVar}
use Rattle.nutrequest.specs.declared.request.Request.TheVariants.{GetNumAttach, TrackedSetVar}
use Rattle.nutrequest.specs.declared.request.Request.TheVariants.{TrackedInstcmd, GetTracking}
use Rattle.nutrequest.specs.Reply.{Reply, Refused, Whole, reply, reply_from, first_of, first_or}
use Rattle.nutrequest.specs.Reply.{expected_of, refusal_of, after_first, one_item}
use Rattle.nutclient.specs.Requests.{reply_behind, last_reply_after}
use Rattle.nutclient.specs.Printed.{printed, printed_of}
use Rattle.endtoend.specs.Refused.{is_granted_by_ok, ARefusalEndsTheJob}
use Rattle.endtoend.proofs.LineReading.{written_line, line_before}
use Rattle.nutwords.proofs.FaultLemmas.{words_of-reads}

-- a word that is written as it is, and that a client reads as that of an error
record IsErrorWord (word : List ℕ) : Type 0 where
  some : 0 < length word
  bare : IsTrue (list_all is_bare word)
  short : length word ≤ 64
  refusal : (request : Request) (more : List ℕ) →
      after_first request (refusal_of (codes "ERR" ∷ word ∷ [])) more ≡ Refused word

spelled : (word : ErrWord) → IsErrorWord (spelling_of word)
spelled errors.AccessDenied = record
    { some = omega arith; bare = refl; short = omega arith; refusal = λ request more. refl }
spelled errors.UnknownUps = record
    { some = omega arith; bare = refl; short = omega arith; refusal = λ request more. refl }
spelled errors.VarNotSupported = record {
  some = omega arith;
  bare = refl;
  short = omega arith;
  refusal = λ request more. refl;
}
spelled errors.CmdNotSupported = record {
  some = omega arith;
  bare = refl;
  short = omega arith;
  refusal = λ request more. refl;
}
spelled errors.InvalidArgument = record {
  some = omega arith;
  bare = refl;
  short = omega arith;
  refusal = λ request more. refl;
}
spelled errors.InstcmdFailed = record
    { some = omega arith; bare = refl; short = omega arith; refusal = λ request more. refl }
spelled errors.SetFailed = record
    { some = omega arith; bare = refl; short = omega arith; refusal = λ request more. refl }
spelled errors.Readonly = record {
  some = omega arith;
  bare = refl;
  short = omega arith;
  refusal = λ request more. refl;
}
spelled errors.TooLong = record {
  some = omega arith;
  bare = refl;
  short = omega arith;
  refusal = λ request more. refl;
}
spelled errors.FeatureNotConfigured = record
    { some = omega arith; bare = refl; short = omega arith; refusal = λ request more. refl }
spelled errors.DriverNotConnected = record
    { some = omega arith; bare = refl; short = omega arith; refusal = λ request more. refl }
spelled errors.DataStale = record
    { some = omega arith; bare = refl; short = omega arith; refusal = λ request more. refl }
spelled errors.AlreadyLoggedIn = record {
  some = omega arith;
  bare = refl;
  short = omega arith;
  refusal = λ request more. refl;
}
spelled errors.AlreadySetPassword = record
    { some = omega arith; bare = refl; short = omega arith; refusal = λ request more. refl }
spelled errors.AlreadySetUsername = record
    { some = omega arith; bare = refl; short = omega arith; refusal = λ request more. refl }
spelled errors.UsernameRequired = record
    { some = omega arith; bare = refl; short = omega arith; refusal = λ request more. refl }
spelled errors.PasswordRequired = record
    { some = omega arith; bare = refl; short = omega arith; refusal = λ request more. refl }
spelled errors.UnknownCommand = record {
  some = omega arith;
  bare = refl;
  short = omega arith;
  refusal = λ request more. refl;
}
spelled errors.InvalidValue = record
    { some = omega arith; bare = refl; short = omega arith; refusal = λ request more. refl }

-- a line of words that a client reads first
pub first_read : (request : Request) (texts words : List (List ℕ)) (more : List ℕ) →
    IsWrittenLine texts words → reply request (line_of texts ++ more) ≡
    after_first request (first_of request words) more
first_read request texts words more h =
    let r = written_line texts words h in
    ap (reply_from request) (line_before texts words more r) ∙
    ap (λ ws. after_first request (first_of request ws) more) (words_of-reads r.line words r.reads)

-- no request is granted by ERR
not_expected : (request : Request) (word : List ℕ) → expected_of request (codes "ERR" ∷ word ∷ []) ≡ None
not_expected (ListOf query) word = refl
not_expected (GetVar ups name) word = refl
not_expected (GetNumAttach ups) word = refl
not_expected (TrackedSetVar ups name value) word = refl
not_expected (TrackedInstcmd ups name value) word = refl
not_expected (GetTracking id) word = refl
not_expected _ word = refl

pub refused_read : (request : Request) (word : ErrWord) (more : List ℕ) →
    reply request (error_line word ++ more) ≡ Refused (spelling_of word)
refused_read request word more =
    let w : List ℕ = spelling_of word in
    let is = spelled word in
    let texts : List (List ℕ) = codes "ERR" ∷ w ∷ [] in
    let short = is.short in
    let written : IsWrittenLine texts texts = record {
      written = (as_it_is (omega arith) refl, (as_it_is is.some is.bare, tt));
      fits = omega (arith, short, length-append (codes "ERR" ++ 32 ∷ w) (10 ∷ []));
    } in
    first_read request texts texts more written
    ∙ ap (λ o. after_first request (first_or o (refusal_of texts)) more) (not_expected request w)
    ∙ is.refusal request more

-- and what is granted by OK is granted
granted_by : (request : Request) (more : List ℕ) → is_granted_by_ok request ≡ true →
    after_first request (first_of request (codes "OK" ∷ [])) more ≡ Whole (one_item (codes "OK")) more
granted_by (ListOf query) more h = cc h
granted_by (GetVar ups name) more h = cc h
granted_by (GetNumAttach ups) more h = cc h
granted_by (TrackedSetVar ups name value) more h = cc h
granted_by (TrackedInstcmd ups name value) more h = cc h
granted_by (GetTracking id) more h = cc h
granted_by _ more h = refl

pub granted_read : (request : Request) (more : List ℕ) → is_granted_by_ok request ≡ true →
    reply request (line_of (codes "OK" ∷ []) ++ more) ≡ Whole (one_item (codes "OK")) more
granted_read request more h =
    let texts : List (List ℕ) = codes "OK" ∷ [] in
    let written : IsWrittenLine texts texts =
    record { written = (as_it_is (omega arith) refl, tt); fits = omega arith } in
    first_read request texts texts more written ∙ granted_by request more h

pub refusal_ends : ARefusalEndsTheJob
refusal_ends = record {
  refused = λ s c line word request requests form more is.
      ap (λ t. printed (request ∷ requests) form (t ++ more)) is
      ∙ ap (λ (r : Reply). printed_of form
      (reply_behind r (λ items rest. last_reply_after items requests rest))) (refused_read request word more);
  granted = λ s c line request next requests form more by_ok is.
      ap (λ t. printed (request ∷ next ∷ requests) form (t ++ more)) is
      ∙ ap (λ (r : Reply). printed_of form
      (reply_behind r (λ items rest. last_reply_after items (next ∷ requests) rest)))
      (granted_read request more by_ok);
}
