-- The front of a manifest is one, and each manifest has one fold.
use Rattle.std.proofs.Common.{◌≡◌, ℕ, List, [], ◌∷◌, ◌++◌, refl, sym, ap, ◌∙◌, subst}
use Rattle.std.proofs.lemmas.List.{append-nil}
use Rattle.manifest_edit.specs.Edits.{IsEdit, edit_text}
use Rattle.manifest_edit.specs.declared.edit.Edit.{Edit}
use Rattle.manifest_edit.proofs.Parts.{edits_unique}
use Rattle.manifest_fold.specs.declared.fold.Folded.{Folded}
use Rattle.manifest_fold.specs.Folds.{IsAccepted, fold_with}
use Rattle.manifest_fold.specs.Bodies.{LeadsTo, LeadsNowhere, LeadAll}

-- what a crash leaves that drops the last frames leads to a fold too
pub front_leads : (front back : List (List ℕ)) (fold end : Folded) → LeadAll fold (front ++ back) end → (mid : Folded) × LeadAll fold front mid × LeadAll mid back end
front_leads [] back fold end all = (fold, refl, all)
front_leads (body ∷ front) back fold end all =
    let more = front_leads front back all.0 end all.2 in
    (more.0, (all.0, all.1, more.1), more.2)

pub leads_on : (front back : List (List ℕ)) (fold mid end : Folded) → LeadAll fold front mid → LeadAll mid back end → LeadAll fold (front ++ back) end
leads_on [] back fold mid end first then = subst (λ (f : Folded). LeadAll f back end) first then
leads_on (body ∷ front) back fold mid end first then = (first.0, first.1, leads_on front back first.0 mid end first.2 then)

-- one body more
pub leads_push : (bodies : List (List ℕ)) (body : List ℕ) (fold mid end : Folded) → LeadAll fold bodies mid → LeadsTo mid body end → LeadAll fold (bodies ++ body ∷ []) end
leads_push bodies body fold mid end first then = leads_on bodies (body ∷ []) fold mid end first (end, then, refl)

-- a body is one edit at most
one_edit : (body : List ℕ) (e f : Edit) → IsEdit body e → IsEdit body f → e ≡ f
one_edit body e f is_e is_f =
    (edits_unique e f [] [] is_e.sized is_f.sized (append-nil (edit_text e) ∙ sym is_e.is ∙ is_f.is ∙ sym (append-nil (edit_text f)))).0

one_next : (fold next other : Folded) (body : List ℕ) → LeadsTo fold body next → LeadsTo fold body other → next ≡ other
one_next fold next other body a b =
    a.is ∙ ap (fold_with fold) (one_edit body a.edit b.edit a.spelled b.spelled) ∙ sym b.is

-- two folds of the same bodies are the same
pub one_end : (bodies : List (List ℕ)) (fold end other : Folded) → LeadAll fold bodies end → LeadAll fold bodies other → end ≡ other
one_end [] fold end other a b = a ∙ sym b
one_end (body ∷ bodies) fold end other a b =
    let same = one_next fold a.0 b.0 body a.1 b.1 in
    one_end bodies b.0 end other (subst (λ (f : Folded). LeadAll f bodies end) same a.2) b.2

-- ---- bodies that lead nowhere

pub no_edit_leads : (fold : Folded) (body : List ℕ) → ((e : Edit) → IsEdit body e → ⊥) → LeadsNowhere fold body
no_edit_leads fold body none next leads = none leads.edit leads.spelled

pub refused_leads : (fold : Folded) (body : List ℕ) (e : Edit) → IsEdit body e → (IsAccepted fold e → ⊥) → LeadsNowhere fold body
refused_leads fold body e is refused next leads = refused (subst (IsAccepted fold) (one_edit body leads.edit e leads.spelled is) leads.accepted)
