-- Joint runs in which a log is made.
use Rattle.std.proofs.Common.{◌≡◌, ◌⊎◌, inl, inr, ⊎_elim, List, ◌∷◌, refl, sym, ap, ◌∙◌, subst}
use Rattle.udt_disk.specs.Crash.{Image, Created, NoMore}
use Rattle.udt_disk.specs.Runs.{MayTear, Leaves}
use Rattle.udt_disk.specs.Touches.{Touches}
use Rattle.udt_disk.specs.Joint.{Folder, Joint, IsHeld, IsFree, IsImage, IsBetween, Ran}
use Rattle.udt_disk.specs.Joint.Ran.{rests, then_to}
use Rattle.udt_disk.specs.Moments.{holding, MayLeave}
use Rattle.udt_disk.proofs.Moments.{Kept, Left, image_leaves, left_by, step_between, step_after, take_step, write_step}
use Rattle.udt_disk.proofs.Moments.Kept.{on, given}
use Rattle.udt_disk.proofs.TouchLemmas.{touches_nothing}
use Rattle.udt_disk.specs.declared.name.FileName.{FileName}
use Rattle.udt_disk.specs.declared.file.DiskFile as file
use Rattle.udt_disk.specs.declared.disk.Disk as disk
use Rattle.wal.specs.Making.{LeavesUnmade, IsWhileMade}

-- what a torn first byte makes of images, of more images
tears_more : (P Q : Image → Type 0) → ((c : Image) → P c → Q c) → (c : Image) → MayTear 0 1 P c → MayTear 0 1 Q c
tears_more P Q more c image = ⊎_elim (λ here. inl (more c here)) (λ torn. inr (torn.0, more torn.0 torn.1, torn.2)) image

module _ {D F : Type 0} (d : disk.Ghosts D F) (f : file.Ghosts F) (disk_now : (x : D) (n : FileName) (c : Image) → d.left_since x (d.moment x) n c → d.may_leave x n c) (file_now : (x : F) (c : Image) → f.left_since x (f.moment x) c → f.may_leave x c)
    (disk0 : D) (others : List F) (name : FileName) (free : IsFree d f (holding disk0 others) name) where
  abbrev start : Joint D F
  start = holding disk0 others

  abbrev IsName : FileName → Type 0
  IsName n = n ≡ name

  abbrev Old : Image → Type 0
  Old = d.may_leave disk0 name

  abbrev pub Made : Folder → Type 0
  Made = IsWhileMade d f start name

  -- under the other names nothing is left that wasn't at the start
  abbrev pub LeavesAsAtStart : Joint D F → Type 0
  LeavesAsAtStart j = (n : FileName) (c : Image) → ¬ IsName n → MayLeave d f j n c → MayLeave d f start n c

  -- one step
  pub making : (j k : Joint D F) → LeavesAsAtStart j → Ran d f Made start j → ((x : F) → IsHeld j.files x → ¬ IsName (f.name x) → Kept d f ⊥ j k x) → ((n : FileName) → IsFree d f j n → ¬ IsName n → Left d f ⊥ j k n)
      → ((folder : Folder) → IsBetween d f j k folder → LeavesUnmade Old (folder name)) → ((folder : Folder) → IsImage d f k folder → LeavesUnmade Old (folder name)) → Ran d f Made start k
  making j k before so_far kept left between after =
      then_to j k so_far (λ folder image. record { others = λ n apart. before n (folder n) apart (step_between d f disk_now file_now IsName ⊥ j k kept left folder image n apart); made = between folder image })
      (λ folder image. record { others = λ n apart. before n (folder n) apart (step_after d f disk_now file_now IsName ⊥ j k kept left folder image n apart); made = after folder image })

  -- before the first step
  begins : Ran d f Made start start
  begins = rests (λ folder image. record { others = λ n apart. image_leaves d f start folder image n; made = inl (image.others name free) })

  -- the log's file wasn't made
  pub not_made : (disk1 : D) → Touches d IsName disk0 disk1 → ((c : Image) → d.may_leave disk1 name c → Old c ⊎ Created Old c) → ((c : Image) → d.left_since disk1 (d.moment disk0) name c → d.left_since disk0 (d.moment disk0) name c ⊎ d.may_leave disk1 name c)
      → Ran d f Made start (holding disk1 others)
  not_made disk1 touches failed time =
      let k : Joint D F = holding disk1 others in
      let unmade : (c : Image) → d.may_leave disk1 name c → LeavesUnmade Old c = λ c left. ⊎_elim (λ old. inl old) (λ created. inr (inl created)) (failed c left) in
      making start k (λ n c apart left. left) begins (λ x held apart. on held) (λ n out apart. left_by d f disk_now file_now IsName ⊥ start k touches n apart out)
      (λ folder image. ⊎_elim (λ past. inl (disk_now disk0 name (folder name) past)) (λ now. unmade (folder name) now) (time (folder name) (image.others name free free)))
      (λ folder image. unmade (folder name) (image.others name free))

  module _ (disk1 : D) (born ended : F) (touches : Touches d IsName disk0 disk1) (named : f.name born ≡ name) (same : f.name ended ≡ f.name born) (created : (c : Image) → f.may_leave born c → Created Old c) (run : Leaves f born ended (MayTear 0 1 (f.may_leave born))) where
    unmade_born : (folder : Folder) → f.may_leave born (folder (f.name born)) → LeavesUnmade Old (folder name)
    unmade_born folder left = inr (inl (subst (λ (n : FileName). Created Old (folder n)) named (created (folder (f.name born)) left)))

    pub unmade_torn : (folder : Folder) (n : FileName) → n ≡ name → MayTear 0 1 (f.may_leave born) (folder n) → LeavesUnmade Old (folder name)
    unmade_torn folder n is torn = inr (subst (λ (m : FileName). MayTear 0 1 (Created Old) (folder m)) is (tears_more (f.may_leave born) (Created Old) created (folder n) torn))

    named_too : f.name ended ≡ name
    named_too = same ∙ named

    free_at_start : IsFree d f start (f.name born)
    free_at_start = subst (IsFree d f start) (sym named) free

    abbrev while_born : Joint D F
    while_born = holding disk1 (born ∷ others)

    abbrev pub while_made : Joint D F
    while_made = holding disk1 (ended ∷ others)

    free_beside : (x : F) → f.name x ≡ name → (n : FileName) → IsFree d f start n → ¬ IsName n → IsFree d f (holding disk1 (x ∷ others)) n
    free_beside x is n out apart y held same_name = ⊎_elim (λ here. apart (same_name ∙ ap f.name (sym here) ∙ is)) (λ there. out y there same_name) held

    leaves_born : LeavesAsAtStart while_born
    leaves_born n c apart left = (take_step d f disk_now file_now others IsName disk0 disk1 born touches named).no_more n c apart left

    pub leaves_made : LeavesAsAtStart while_made
    leaves_made n c apart left = leaves_born n c apart ((write_step d f disk_now file_now others IsName disk1 born ended same named).no_more n c apart left)

    first_step : Ran d f Made start while_born
    first_step =
        making start while_born (λ n c apart left. left) begins (λ x held apart. on (inr held)) (λ n out apart. left_by d f disk_now file_now IsName ⊥ start while_born touches n apart (free_beside born named n out apart))
        (λ folder image. ⊎_elim (λ past. inl (subst (λ (n : FileName). d.may_leave disk0 n (folder n)) named past)) (unmade_born folder) (image.taken born (inl refl) free_at_start))
        (λ folder image. unmade_born folder (image.held born (inl refl)))

    -- the log's file is made
    pub is_made : Ran d f Made start while_made
    is_made =
        making while_born while_made leaves_born first_step (λ x held apart. ⊎_elim (λ is. absurd (apart (ap f.name (sym is) ∙ named))) (λ there. on (inr there)) held)
        (λ n out apart. left_by d f disk_now file_now IsName ⊥ while_born while_made (touches_nothing d IsName disk1) n apart (free_beside ended named_too n (λ y there. out y (inr there)) apart))
        (λ folder image. unmade_torn folder (f.name born) named (run.each (folder (f.name born)) (image.held born ended (inl refl) (inl refl) same)))
        (λ folder image. unmade_torn folder (f.name ended) named_too (run.now (folder (f.name ended)) (image.held ended (inl refl))))

    -- and given back
    pub is_unmade : (disk2 : D) → Touches d IsName disk1 disk2 → NoMore (f.may_leave ended) (d.may_leave disk2 (f.name ended)) → Ran d f Made start (holding disk2 others)
    is_unmade disk2 back no_more =
        let k : Joint D F = holding disk2 others in
        let free_ended : IsFree d f k (f.name ended) = subst (IsFree d f k) (sym named_too) free in
        making while_made k leaves_made is_made (λ x held apart. ⊎_elim (λ is. absurd (apart (ap f.name (sym is) ∙ named_too))) (λ there. on there) held)
        (λ n out apart. left_by d f disk_now file_now IsName ⊥ while_made k back n apart (λ y there. out y (inr there)))
        (λ folder image. unmade_torn folder (f.name ended) named_too (run.now (folder (f.name ended)) (⊎_elim (λ left. left) (λ left. no_more (folder (f.name ended)) left) (image.given ended (inl refl) free_ended))))
        (λ folder image. unmade_torn folder (f.name ended) named_too (run.now (folder (f.name ended)) (no_more (folder (f.name ended)) (image.others (f.name ended) free_ended))))

module _ {D F : Type 0} (d : disk.Ghosts D F) (f : file.Ghosts F) (disk_now : (x : D) (n : FileName) (c : Image) → d.left_since x (d.moment x) n c → d.may_leave x n c) (file_now : (x : F) (c : Image) → f.left_since x (f.moment x) c → f.may_leave x c)
    (disk0 : D) (held : F) (rest : List F) (name : FileName) (free : IsFree d f (holding disk0 (held ∷ rest)) name) (disk1 : D) (born ended : F) (touches : Touches d (λ n. n ≡ name) disk0 disk1) (named : f.name born ≡ name) (same : f.name ended ≡ f.name born)
    (created : (c : Image) → f.may_leave born c → Created (d.may_leave disk0 name) c) (run : Leaves f born ended (MayTear 0 1 (f.may_leave born))) where
  -- the old file of the log is given back while the new one is held
  pub is_rolled : (disk2 : D) → IsFree d f (holding disk0 rest) (f.name held) → Touches d (λ n. n ≡ f.name held) disk1 disk2 → NoMore (f.may_leave held) (d.may_leave disk2 (f.name held))
      → Ran d f (IsWhileMade d f (holding disk0 (held ∷ rest)) name) (holding disk0 (held ∷ rest)) (holding disk2 (ended ∷ rest))
  is_rolled disk2 alone back no_more =
      let j : Joint D F = holding disk1 (ended ∷ held ∷ rest) in
      let k : Joint D F = holding disk2 (ended ∷ rest) in
      let others : List F = held ∷ rest in
      let gone : ¬ (f.name held ≡ name) → Kept d f ⊥ j k held = λ apart. given (λ y there is. ⊎_elim (λ here. apart (is ∙ ap f.name (sym here) ∙ same ∙ named)) (λ among. alone y among is) there) no_more (λ none. absurd none) in
      let kept : (x : F) → IsHeld j.files x → ¬ (f.name x ≡ name) → Kept d f ⊥ j k x = λ x at apart. ⊎_elim (λ is. absurd (apart (ap f.name (sym is) ∙ same ∙ named)))
      (λ there. ⊎_elim (λ is. subst (λ (z : F). ¬ (f.name z ≡ name) → Kept d f ⊥ j k z) is gone apart) (λ among. on (inr among)) there) at in
      let still : (n : FileName) → IsFree d f j n → IsFree d f k n = λ n out y there. out y (⊎_elim (λ here. inl here) (λ among. inr (inr among)) there) in
      making d f disk_now file_now disk0 others name free j k (leaves_made d f disk_now file_now disk0 others name free disk1 born ended touches named same created run) (is_made d f disk_now file_now disk0 others name free disk1 born ended touches named same created run) kept
      (λ n out apart. left_by d f disk_now file_now (λ m. m ≡ f.name held) ⊥ j k back n (out held (inr (inl refl))) (still n out))
      (λ folder image. unmade_torn d f disk_now file_now disk0 others name free disk1 born ended touches named same created run folder (f.name ended) (same ∙ named) (run.now (folder (f.name ended)) (file_now ended (folder (f.name ended)) (image.held ended ended (inl refl) (inl refl) refl))))
      (λ folder image. unmade_torn d f disk_now file_now disk0 others name free disk1 born ended touches named same created run folder (f.name ended) (same ∙ named) (run.now (folder (f.name ended)) (image.held ended (inl refl))))
