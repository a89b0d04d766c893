-- One more family that is written.
use Rattle.std.proofs.Common.{◌≡◌, ℕ, ◌+◌, ◌<◌, List, [], ◌∷◌, ◌++◌, length, take, get_or, sym, ap, ◌∙◌}
use Rattle.std.specs.List.{flat_map}
use Rattle.std.proofs.lemmas.List.{take_more, flat_map_more}
use Rattle.udt_model.specs.declared.line.FamilyHead.{FamilyHead}
use Rattle.head_manifest.specs.Heads.{family_text}

pub text_more : (families : List FamilyHead) (i : ℕ) (f : FamilyHead) (old mid new : List ℕ) → i < length families → f ≡ get_or families i f → mid ≡ old ++ flat_map family_text (take i families) → new ≡ mid ++ family_text f
    → new ≡ old ++ flat_map family_text (take (i + 1) families)
text_more families i f old mid new within is so_far more =
    more ∙ ap (λ (l : List ℕ). l ++ family_text f) so_far ∙ flat_map_more family_text old (take i families) f
    ∙ ap (λ (l : List FamilyHead). old ++ flat_map family_text l) (ap (λ (g : FamilyHead). take i families ++ g ∷ []) is ∙ sym (take_more families i f within))
