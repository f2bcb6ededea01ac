-- The chain that what is known leads along: whatever is true of all that was told is true of its entries, it links up,
-- and it leads along the names.
use Rattle.std.proofs.Common.{◌≡◌, ℕ, ◌-◌, true, zero, suc, List, [], ◌∷◌, ◌++◌, length, drop, refl, sym, ap, ◌∙◌, subst, arith}
use Rattle.std.specs.List.{Contains}
use Rattle.inf_base.specs.declared.access.Access.{Access}
use Rattle.inf_base.specs.declared.directory.DirRef.{DirRef}
use Rattle.inf_base.specs.declared.entry.Entry.{Entry}
use Rattle.inf_base.specs.declared.key.Key.{Key}
use Rattle.inf_base.specs.declared.key.Key.TheVariants as key
use Rattle.inf_base.specs.declared.key.LookKey.{LookKey}
use Rattle.inf_base.specs.declared.key.LookKey.TheVariants as look
use Rattle.inf_base.specs.Same.{dir_of}
use Rattle.inf_base.proofs.Same.{same_dir}
use Rattle.inf_message.specs.declared.reply.Reply.{Reply}
use Rattle.inf_message.specs.declared.reply.Reply.TheVariants as reply
use Rattle.inf_resolve.specs.declared.known.Known.{Known}
use Rattle.inf_resolve.specs.Chain.{IsChain, IsTold, LeadsAlong}
use Rattle.inf_resolve.specs.Known.{links_to, told_entry}
use Rattle.inf_resolve.proofs.KnownFacts.{same_key, told_is_known}
use Rattle.inf_laws_client.specs.Paths.{names_in, names_of}
use Rattle.inf_laws_client.specs.Told.{AllKnown, AreKnownFor, CarriesOnly, IsChainOf, IsIn, IsToldFor, LinksFrom, TellsOnly}

is_in : (dir : DirRef) (k : Key) → links_to dir k ≡ true → IsIn dir k
is_in dir key.Top is = absurd cc
is_in dir (key.At other name) is = same_dir other dir is

-- ---- what was told under a key is what is told to it

known_for : (known : List Known) (x : Known) → Contains known x → AreKnownFor known → IsToldFor x.key x.reply
known_for [] x at fits = absurd (omega (arith, at.1))
known_for (y ∷ ys) x (zero, within, same) fits =
    let it : y ≡ x = cc in subst (λ (z : Known). IsToldFor z.key z.reply) it fits.0
known_for (y ∷ ys) x (suc n, within, same) fits = known_for ys x (n, omega (arith, within), same) fits.1

told_for : (known : List Known) (asked : LookKey) (e : Entry) → AreKnownFor known → IsTold known asked e
    → IsToldFor asked (reply.Found e.key e.access)
told_for known asked e fits told =
    let x = told.told in
    let is = told_is_known asked known x told.is_known in
    subst (λ (given : Reply). IsToldFor asked given) told.is_found
    (subst (λ (k : LookKey). IsToldFor k x.reply) (sym (same_key asked x.key is.1)) (known_for known x is.0 fits))

-- ---- it is true of each entry

module _ (T : Entry → Type 0) where
  known_tells : (known : List Known) (x : Known) → Contains known x → AllKnown T known → TellsOnly T x.place x.reply
  known_tells [] x at tells = absurd (omega (arith, at.1))
  known_tells (y ∷ ys) x (zero, within, same) tells =
      let it : y ≡ x = cc in subst (λ (z : Known). TellsOnly T z.place z.reply) it tells.0
  known_tells (y ∷ ys) x (suc n, within, same) tells = known_tells ys x (n, omega (arith, within), same) tells.1

  told_true : (known : List Known) (asked : LookKey) (e : Entry) → AllKnown T known → IsTold known asked e → T e
  told_true known asked e tells told =
      let x = told.told in
      let is = told_is_known asked known x told.is_known in
      let found : TellsOnly T x.place (reply.Found e.key e.access) =
      subst (λ (given : Reply). TellsOnly T x.place given) told.is_found (known_tells known x is.0 tells) in
      subst (λ (place : ℕ). T (told_entry e.key e.access place)) (sym told.stamp) found

  way_carries : (known : List Known) (dir : DirRef) (names : List (List ℕ)) (way : List Entry) → AllKnown T known
      → LeadsAlong known dir names way → CarriesOnly T way
  way_carries known dir [] [] tells leads = tt
  way_carries known dir [] (e ∷ es) tells leads = absurd leads
  way_carries known dir (name ∷ names) [] tells leads = tt
  way_carries known dir (name ∷ names) (e ∷ es) tells leads = (
    told_true known (look.At dir.id name) e tells leads.0,
    way_carries known (dir_of e.access) names es tells leads.2,
  )

way_links : (known : List Known) (before : Access) (names : List (List ℕ)) (way : List Entry)
    → LeadsAlong known (dir_of before) names way → LinksFrom before way
way_links known before [] [] leads = tt
way_links known before [] (e ∷ es) leads = absurd leads
way_links known before (name ∷ names) [] leads = tt
way_links known before (name ∷ names) (e ∷ es) leads =
    (is_in (dir_of before) e.key leads.1, way_links known e.access names es leads.2)

way_named : (known : List Known) (dir : DirRef) (names : List (List ℕ)) (way : List Entry) → AreKnownFor known
    → LeadsAlong known dir names way → names_in way ++ drop (length way) names ≡ names
way_named known dir [] [] fits leads = refl
way_named known dir [] (e ∷ es) fits leads = absurd leads
way_named known dir (name ∷ names) [] fits leads = refl
way_named known dir (name ∷ names) (e ∷ es) fits leads =
    ap (λ (first : List ℕ). first ∷ (names_in es ++ drop (length es) names))
    (told_for known (look.At dir.id name) e fits leads.0)
    ∙ ap (λ (later : List (List ℕ)). name ∷ later) (way_named known (dir_of e.access) names es fits leads.2)

-- ---- from the root on

pub chain_is : (T : Entry → Type 0) (known : List Known) (names : List (List ℕ)) (chain : List Entry)
    → AllKnown T known → AreKnownFor known → IsChain known names chain → IsChainOf T chain
chain_is T known names [] tells fits leads = absurd leads
chain_is T known names (root ∷ way) tells fits leads = record {
  carries = (
    told_true T known look.Top root tells leads.0,
    way_carries T known (dir_of root.access) names way tells leads.1,
  );
  links_up = (told_for known look.Top root fits leads.0, way_links known root.access names way leads.1);
}

pub chain_names : (known : List Known) (names : List (List ℕ)) (chain : List Entry) (left : List (List ℕ))
    → AreKnownFor known → IsChain known names chain → left ≡ drop (length chain - 1) names
    → names_of chain ++ left ≡ names
chain_names known names [] left fits leads is = absurd leads
chain_names known names (root ∷ way) left fits leads is =
    let count : length (root ∷ way) - 1 ≡ length way = omega arith in
    ap (λ (rest : List (List ℕ)). names_in way ++ rest) (is ∙ ap (λ (n : ℕ). drop n names) count)
    ∙ way_named known (dir_of root.access) names way fits leads.1
