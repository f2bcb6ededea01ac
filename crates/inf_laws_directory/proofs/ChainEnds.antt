-- Chains step by step: how the last entry of one stands to the entry before it.
use Rattle.std.proofs.Common.{◌≡◌, ℕ, suc, List, [], ◌∷◌, ◌++◌, length, take, Some, sym, ap, ◌∙◌, subst}
use Rattle.inf_base.specs.declared.access.Access.{Access}
use Rattle.inf_base.specs.declared.entry.Entry.{Entry}
use Rattle.inf_base.specs.declared.key.Key.TheVariants as key
use Rattle.inf_base.specs.Same.{dir_of}
use Rattle.inf_server.specs.Chains.{before_last, last_of}
use Rattle.inf_laws_directory.specs.Leads.{Leads, LeadsFrom}
use Rattle.inf_laws_directory.specs.Owned.{Links}
use Rattle.inf_laws_directory.specs.Things.{Directories}
use Rattle.inf_laws_directory.specs.Told.{LinkAlong, LinkFrom}
use Rattle.inf_laws_directory.proofs.Chains.{less, last_of-next, last_of-one}

before_last-one : (only : Entry) → before_last (only ∷ []) ≡ []
before_last-one only = ap (λ (n : ℕ). take n (only ∷ [])) (less 0)

before_last-next : (first second : Entry) (chain : List Entry) → before_last (first ∷ second ∷ chain) ≡ first ∷ before_last (second ∷ chain)
before_last-next first second chain =
    ap (λ (n : ℕ). take n (first ∷ second ∷ chain)) (less (suc (length chain)))
    ∙ ap (λ (n : ℕ). first ∷ take n (second ∷ chain)) (sym (less (length chain)))

-- each entry stands so to the directory before it and the name
module _ (R : Access → List ℕ → Entry → Type 0) where
  abbrev StepFrom : Access → List (List ℕ) → List Entry → Type 0
  StepFrom here [] [] = Unit {0}
  StepFrom here [] (e ∷ es) = ⊥
  StepFrom here (name ∷ names) [] = ⊥
  StepFrom here (name ∷ names) (e ∷ es) = R here name e × StepFrom e.access names es

  -- and so does the last to the one before it and the last name
  module _ (name : List ℕ) (target parent : Entry) where
    last_step : (path : List (List ℕ)) (first : Entry) (chain : List Entry) → StepFrom first.access (path ++ name ∷ []) chain
        → last_of (first ∷ chain) ≡ Some target → last_of (before_last (first ∷ chain)) ≡ Some parent → R parent.access name target
    last_step [] first [] steps is before = absurd steps
    last_step [] first (e ∷ []) steps is before =
        let last : Some e ≡ Some target = sym (last_of-one e) ∙ sym (last_of-next first e []) ∙ is in
        let one : before_last (first ∷ e ∷ []) ≡ first ∷ [] = before_last-next first e [] ∙ ap (λ (es : List Entry). first ∷ es) (before_last-one e) in
        let above : Some first ≡ Some parent = sym (last_of-one first) ∙ sym (ap last_of one) ∙ before in
        let same_last : e ≡ target = (cc last) in
        let same_above : first ≡ parent = (cc above) in
        subst (λ (p : Entry). R p.access name target) same_above (subst (λ (t : Entry). R first.access name t) same_last steps.0)
    last_step [] first (e ∷ next ∷ chain) steps is before = absurd steps.1
    last_step (other ∷ path) first [] steps is before = absurd steps
    last_step (other ∷ []) first (e ∷ []) steps is before = absurd steps.1
    last_step (other ∷ another ∷ path) first (e ∷ []) steps is before = absurd steps.1
    last_step (other ∷ path) first (e ∷ next ∷ chain) steps is before =
        let rest = before_last-next e next chain in
        let above : last_of (before_last (e ∷ next ∷ chain)) ≡ Some parent =
        ap last_of rest
        ∙ sym (last_of-next first e (before_last (next ∷ chain)))
        ∙ sym (ap last_of (before_last-next first e (next ∷ chain) ∙ ap (λ (es : List Entry). first ∷ es) rest))
        ∙ before in
        last_step path e (next ∷ chain) steps.1 (sym (last_of-next first e (next ∷ chain)) ∙ is) above

-- the last entry of a chain that is true now stands under the last name, in the directory of the entry before it
abbrev LinksTo : Directories → Access → List ℕ → Entry → Type 0
LinksTo dirs here name e = Links dirs (dir_of here) name e.access

leads_steps : (dirs : Directories) (here : Access) (names : List (List ℕ)) (es : List Entry) → LeadsFrom dirs here names es → StepFrom (LinksTo dirs) here names es
leads_steps dirs here [] [] leads = tt
leads_steps dirs here [] (e ∷ es) leads = absurd leads
leads_steps dirs here (name ∷ names) [] leads = absurd leads
leads_steps dirs here (name ∷ names) (e ∷ es) leads = (leads.0, leads_steps dirs e.access names es leads.1)

pub last_links : (dirs : Directories) (name : List ℕ) (target parent : Entry) (root : Access) (path : List (List ℕ)) (chain : List Entry)
    → Leads dirs root (path ++ name ∷ []) chain → last_of chain ≡ Some target → last_of (before_last chain) ≡ Some parent
    → Links dirs (dir_of parent.access) name target.access
last_links dirs name target parent root path [] leads is before = absurd leads
last_links dirs name target parent root path (e ∷ chain) leads is before =
    last_step (LinksTo dirs) name target parent path e chain
    (leads_steps dirs e.access (path ++ name ∷ []) chain (subst (λ (access : Access). LeadsFrom dirs access (path ++ name ∷ []) chain) (sym leads.0) leads.1)) is before

-- and where entries link, its key is the last name of the directory before it
abbrev IsKeyed : Access → List ℕ → Entry → Type 0
IsKeyed here name e = e.key ≡ key.At (dir_of here) name

links_steps : (here : Access) (names : List (List ℕ)) (es : List Entry) → LinkFrom here names es → StepFrom IsKeyed here names es
links_steps here [] [] links = tt
links_steps here [] (e ∷ es) links = absurd links
links_steps here (name ∷ names) [] links = absurd links
links_steps here (name ∷ names) (e ∷ es) links = (links.0, links_steps e.access names es links.1)

pub last_key : (name : List ℕ) (target parent : Entry) (path : List (List ℕ)) (chain : List Entry) → LinkAlong (path ++ name ∷ []) chain
    → last_of chain ≡ Some target → last_of (before_last chain) ≡ Some parent → target.key ≡ key.At (dir_of parent.access) name
last_key name target parent path [] links is before = absurd links
last_key name target parent path (e ∷ chain) links is before =
    last_step IsKeyed name target parent path e chain (links_steps e.access (path ++ name ∷ []) chain links.1) is before

-- the entries before the last lead along the names before the last
record HasBefore (dirs : Directories) (path : List (List ℕ)) (first : Entry) (chain : List Entry) : Type 0 where
  rest : List Entry
  is : before_last (first ∷ chain) ≡ first ∷ rest
  leads : LeadsFrom dirs first.access path rest

leads_before_from : (dirs : Directories) (name : List ℕ) (path : List (List ℕ)) (first : Entry) (chain : List Entry)
    → LeadsFrom dirs first.access (path ++ name ∷ []) chain → HasBefore dirs path first chain
leads_before_from dirs name [] first [] leads = absurd leads
leads_before_from dirs name [] first (e ∷ []) leads =
    record { rest = []; is = before_last-next first e [] ∙ ap (λ (es : List Entry). first ∷ es) (before_last-one e); leads = tt }
leads_before_from dirs name [] first (e ∷ next ∷ chain) leads = absurd leads.1
leads_before_from dirs name (other ∷ path) first [] leads = absurd leads
leads_before_from dirs name (other ∷ path) first (e ∷ chain) leads =
    let later = leads_before_from dirs name path e chain leads.1 in
    record { rest = e ∷ later.rest; is = before_last-next first e chain ∙ ap (λ (es : List Entry). first ∷ es) later.is; leads = (leads.0, later.leads) }

pub leads_before : (dirs : Directories) (name : List ℕ) (root : Access) (path : List (List ℕ)) (chain : List Entry)
    → Leads dirs root (path ++ name ∷ []) chain → Leads dirs root path (before_last chain)
leads_before dirs name root path [] leads = absurd leads
leads_before dirs name root path (e ∷ chain) leads =
    let before = leads_before_from dirs name path e chain (subst (λ (access : Access). LeadsFrom dirs access (path ++ name ∷ []) chain) (sym leads.0) leads.1) in
    subst (λ (es : List Entry). Leads dirs root path es) (sym before.is)
    (leads.0, subst (λ (access : Access). LeadsFrom dirs access path before.rest) leads.0 before.leads)
