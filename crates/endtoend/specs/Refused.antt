-- What a client does when the server refuses, or answers `OK`.
use Rattle.std.specs.Prelude.{◌≡◌, ℕ, Bool, true, false, List, [], ◌∷◌, ◌++◌, codes}
use Rattle.nutwords.specs.Frame.{line_of}
use Rattle.nutcommand.specs.ErrWord.{error_line, spelling_of}
use Rattle.nutcommand.specs.declared.err_word.ErrWord.{ErrWord}
use Rattle.nutcore.specs.Server.{ServerState}
use Rattle.nutcore.specs.Reply.{reply}
use Rattle.nutrequest.specs.declared.faults.ClientFault.TheVariants.{ErrWord as ServerRefused}
use Rattle.nutrequest.specs.declared.request.Request.{Request}
use Rattle.nutrequest.specs.declared.request.Request.TheVariants.{List as ListOf, GetVar}
use Rattle.nutrequest.specs.declared.request.Request.TheVariants.{GetNumAttach, TrackedSetVar}
use Rattle.nutrequest.specs.declared.request.Request.TheVariants.{TrackedInstcmd, GetTracking}
use Rattle.nutclient.specs.Printed.{Faults, printed}
use Rattle.nutclient.specs.declared.form.Form.{Form}

-- OK without an id grants the request: a user name, a password, the asking for ids, and orders that
-- aren't tracked.
abbrev pub is_granted_by_ok : Request → Bool
is_granted_by_ok (ListOf query) = false
is_granted_by_ok (GetVar ups name) = false
is_granted_by_ok (GetNumAttach ups) = false
is_granted_by_ok (TrackedSetVar ups name value) = false
is_granted_by_ok (TrackedInstcmd ups name value) = false
is_granted_by_ok (GetTracking id) = false
is_granted_by_ok _ = true

-- Where the server answers a request by ERR, whatever was to be asked after it and whatever comes
-- after the answer, nothing is printed, and the job ends with the word of the error. And where a
-- request that isn't the last is answered by OK, what the others make of the rest decides. So it is
-- for each request of a job.
pub record ARefusalEndsTheJob : Type 0 where
  pub refused : (s : ServerState) (c : ℕ) (line : List ℕ) (word : ErrWord) (request : Request)
      (requests : List Request) (form : Form) (more : List ℕ) → reply s c line ≡ error_line word
      → printed (request ∷ requests) form (reply s c line ++ more)
      ≡ Faults (ServerRefused (spelling_of word))
  pub granted : (s : ServerState) (c : ℕ) (line : List ℕ) (request next : Request)
      (requests : List Request) (form : Form) (more : List ℕ) → is_granted_by_ok request ≡ true
      → reply s c line ≡ line_of (codes "OK" ∷ [])
      → printed (request ∷ next ∷ requests) form (reply s c line ++ more)
      ≡ printed (next ∷ requests) form more
