-- A directory that was asked is there in the service, and no other call has sealed it.
use Rattle.std.proofs.Common.{◌≡◌, ℕ, true, List, [], ◌∷◌, Some, is_some, sym, ap, ◌∙◌}
use Rattle.inf_base.specs.declared.caller.CallRef.{CallRef}
use Rattle.inf_base.specs.declared.entry.Entry.{Entry}
use Rattle.inf_base.specs.Same.{dir_of}
use Rattle.inf_content.specs.Contents.{seal_of}
use Rattle.inf_server.specs.Chains.{last_of}
use Rattle.inf_laws_server.specs.Passed.{IsAsked}
use Rattle.inf_laws_directory.specs.Objects.{Objects, Service, content_in, site_in}
use Rattle.inf_laws_directory.proofs.AskedFacts.{asked_open}
use Rattle.inf_laws_directory.proofs.Kept.{content_here}

pub record IsOpen (service : Service) (objects : Objects) (by : CallRef) (chain : List Entry) (entry : Entry) : Type 0 where
  pub last : last_of chain ≡ Some entry
  pub there : is_some (content_in service objects (dir_of entry.access)) ≡ true
  pub unsealed : (sealer : CallRef) → seal_of (content_in service objects (dir_of entry.access)) ≡ Some sealer → sealer ≡ by

pub is_open : (service : Service) (objects : Objects) (number : ℕ) (by : CallRef) (chain : List Entry) (entry : Entry)
    → IsAsked (site_in service number) (objects number) by (last_of chain) (chain ∷ []) entry → IsOpen service objects by chain entry
is_open service objects number by chain entry is =
    let here = content_here service objects number (objects number) (dir_of entry.access) is.here in
    record {
      last = is.last;
      there = ap is_some here ∙ is.there;
      unsealed = λ sealer sealed. asked_open (site_in service number) (objects number) by (last_of chain) entry is sealer (sym (ap seal_of here) ∙ sealed);
    }
