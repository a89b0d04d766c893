-- One frame more.
use Rattle.std.proofs.Common.{◌≡◌, ◌⊎◌, inl, inr, ℕ, ◌+◌, ◌<◌, List, [], ◌∷◌, ◌++◌, length, map, take, drop, get_or, Some, None, sym, ap, ◌∙◌, subst}
use Rattle.std.proofs.lemmas.List.{append_assoc, take_more, map_more, take-append-drop}
use Rattle.udt_disk.specs.Crash.{Image}
use Rattle.gate_log.specs.Placed.{Placed}
use Rattle.gate_log.specs.Frames.{IsWithOrWithout}
use Rattle.gate_log.specs.Reads.{body_of}
use Rattle.manifest_fold.specs.declared.fold.Folded.{Folded}
use Rattle.manifest_fold.specs.Bodies.{LeadsTo, LeadsNowhere, LeadAll}
use Rattle.manifest_fold.proofs.Prefixes.{leads_push}
use Rattle.edit_log.specs.Logs.{HasEdits}
use Rattle.edit_log.specs.Replays.{IsRefusedAt}

-- ---- frames that are folded

pub fold_more : (start : Folded) (frames : List Placed) (i : ℕ) (frame : Placed) (fold next : Folded) (body : List ℕ) → i < length frames → frame ≡ get_or frames i frame → body ≡ frame.bytes
    → LeadAll start (map body_of (take i frames)) fold → LeadsTo fold body next → LeadAll start (map body_of (take (i + 1) frames)) next
fold_more start frames i frame fold next body within at is so_far more =
    let same : body ≡ body_of (get_or frames i frame) = is ∙ ap body_of at in
    subst (λ (bodies : List (List ℕ)). LeadAll start bodies next)
    (ap (λ (b : List ℕ). map body_of (take i frames) ++ b ∷ []) same ∙ sym (map_more body_of frames i frame within))
    (leads_push (map body_of (take i frames)) body start fold next so_far more)

split_at : (frames : List Placed) (i : ℕ) (frame : Placed) → i < length frames → frame ≡ get_or frames i frame → frames ≡ take i frames ++ frame ∷ drop (i + 1) frames
split_at frames i frame within at =
    sym (take-append-drop (i + 1) frames) ∙ ap (λ (l : List Placed). l ++ drop (i + 1) frames) (take_more frames i frame within)
    ∙ append_assoc (take i frames) (get_or frames i frame ∷ []) (drop (i + 1) frames) ∙ ap (λ (p : Placed). take i frames ++ p ∷ drop (i + 1) frames) (sym at)

pub refused_here : (start : Folded) (frames : List Placed) (i : ℕ) (frame : Placed) (fold : Folded) (at : ℕ) (body : List ℕ) → i < length frames → frame ≡ get_or frames i frame → at ≡ frame.at → body ≡ frame.bytes
    → LeadAll start (map body_of (take i frames)) fold → LeadsNowhere fold body → IsRefusedAt start frames at
refused_here start frames i frame fold at body within here place is so_far nowhere = record {
  before = take i frames;
  body = body;
  after = drop (i + 1) frames;
  is = split_at frames i frame within here ∙ ap (λ (n : ℕ). take i frames ++ record { at = n; bytes = frame.bytes } ∷ drop (i + 1) frames) (sym place) ∙ ap (λ (b : List ℕ). take i frames ++ record { at = at; bytes = b } ∷ drop (i + 1) frames) (sym is);
  fold = fold;
  sound = so_far;
  bad = nowhere;
}

-- ---- an edit that is added

-- what a crash leaves while an edit is added
pub either : (head : List ℕ) (start fold end : Folded) (bodies : List (List ℕ)) (body : List ℕ) (image : Image) → LeadAll start bodies fold → LeadsTo fold body end → IsWithOrWithout (head ∷ bodies) body image
    → HasEdits head start image fold ⊎ HasEdits head start image end
either head start fold end bodies body None leads more (inl left) = absurd left
either head start fold end bodies body None leads more (inr left) = absurd left
either head start fold end bodies body (Some bytes) leads more (inl left) = inl (bodies, left, leads)
either head start fold end bodies body (Some bytes) leads more (inr left) = inr (bodies ++ body ∷ [], left, leads_push bodies body start fold end leads more)
