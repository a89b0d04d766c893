-- How calls on a folder and on held files of it follow one another, and what they leave under the names that they don't touch.
use Rattle.std.proofs.Common.{◌≡◌, ◌≢◌, inl, inr, ⊎_elim, List, [], ◌∷◌, refl, sym, ap, ◌∙◌, subst, arith}
use Rattle.std.specs.Prelude.{IsTrue, Some}
use Rattle.udt_disk.specs.Crash.{Image, NoMore}
use Rattle.udt_disk.specs.Runs.{IsOnlyRead}
use Rattle.udt_disk.specs.Joint.{Folder, Joint, IsHeld, IsFree, IsImage, IsBetween, LeavesNow, Ran}
use Rattle.udt_disk.specs.Joint.Ran.{rests, then_to}
use Rattle.udt_disk.specs.Moments.{holding, alone, MayLeave, StandsUnder, AsAtBut, OnlyTouches, OnlyReads}
use Rattle.udt_disk.specs.Touches.{Touches}
use Rattle.udt_disk.specs.declared.name.FileName.{FileName}
use Rattle.udt_disk.specs.declared.file.DiskFile as file
use Rattle.udt_disk.specs.declared.disk.Disk as disk
use Rattle.udt_disk.proofs.Joints.{ran_on, ran_more, ran_stands}
use Rattle.udt_disk.proofs.Names.{same_or_other}

-- What a step does with a held file whose name isn't touched: it is held on, or was only read, or was given back. Where it has S
-- its contents stand.
pub data Kept {D F : Type 0} (d : disk.Ghosts D F) (f : file.Ghosts F) (S : Type 0) (j k : Joint D F) (x : F) : Type 0 where
  on : IsHeld k.files x → Kept d f S j k x
  read : (y : F) → IsHeld k.files y → IsOnlyRead f x y → Kept d f S j k x
  given : IsFree d f k (f.name x) → NoMore (f.may_leave x) (d.may_leave k.disk (f.name x)) → (S → d.stands k.disk (f.name x) ≡ Some (f.seen x)) → Kept d f S j k x

-- and with a name that nobody holds and that isn't touched: nothing, or its file was taken
pub data Left {D F : Type 0} (d : disk.Ghosts D F) (f : file.Ghosts F) (S : Type 0) (j k : Joint D F) (n : FileName) : Type 0 where
  free : IsFree d f k n → d.stands k.disk n ≡ d.stands j.disk n → NoMore (d.may_leave j.disk n) (d.may_leave k.disk n) → ((c : Image) → d.left_since k.disk (d.moment j.disk) n c → d.may_leave j.disk n c) → Left d f S j k n
  taken : (y : F) → IsHeld k.files y → f.name y ≡ n → NoMore (d.may_leave j.disk n) (f.may_leave y) → (S → d.stands j.disk n ≡ Some (f.seen y)) → Left d f S j k n

-- a file was opened
pub record Opening {D F : Type 0} (d : disk.Ghosts D F) (f : file.Ghosts F) (touched : FileName) (old new : D) (x : F) : Type 0 where
  pub touches : Touches d (λ n. n ≡ touched) old new
  pub stood : IsTrue (d.is_told old) → d.stands old touched ≡ Some (f.seen x)
  pub told : f.is_told x ≡ d.is_told old
  pub name : f.name x ≡ touched
  pub crash : NoMore (d.may_leave old touched) (f.may_leave x)

-- a file was given back
pub record Giving {D F : Type 0} (d : disk.Ghosts D F) (f : file.Ghosts F) (old new : D) (x : F) : Type 0 where
  pub touches : Touches d (λ n. n ≡ f.name x) old new
  pub stands : IsTrue (d.is_told old) → IsTrue (f.is_told x) → d.stands new (f.name x) ≡ Some (f.seen x)
  pub crash : NoMore (f.may_leave x) (d.may_leave new (f.name x))

module _ {D F : Type 0} (d : disk.Ghosts D F) (f : file.Ghosts F) where
  -- ---- one run after another

  pub only_then : (T : FileName → Type 0) (j k l : Joint D F) → OnlyTouches d f T j k → OnlyTouches d f T k l → OnlyTouches d f T j l
  only_then T j k l first second = record {
    stands = λ told n c apart under. first.stands told n c apart (second.stands (subst IsTrue (sym first.told) told) n c apart under);
    no_more = λ n c apart left. first.no_more n c apart (second.no_more n c apart left);
    run = ran_on d f (AsAtBut d f T j) j k l first.run (ran_more d f (AsAtBut d f T k) (AsAtBut d f T j) (λ folder each n apart. first.no_more n (folder n) apart (each n apart)) k l second.run);
    told = second.told ∙ first.told;
    model = second.model ∙ first.model;
  }

  -- the same with more names
  pub only_more : (T U : FileName → Type 0) (j k : Joint D F) → ((n : FileName) → T n → U n) → OnlyTouches d f T j k → OnlyTouches d f U j k
  only_more T U j k more only = record {
    stands = λ told n c apart under. only.stands told n c (λ is. apart (more n is)) under;
    no_more = λ n c apart left. only.no_more n c (λ is. apart (more n is)) left;
    run = ran_more d f (AsAtBut d f T j) (AsAtBut d f U j) (λ folder each n apart. each n (λ is. apart (more n is))) j k only.run;
    told = only.told;
    model = only.model;
  }

  -- reads among calls that touch some names
  pub reads_more : (T : FileName → Type 0) (j k : Joint D F) → OnlyReads d f j k → OnlyTouches d f T j k
  reads_more T j k only = only_more (λ n. ⊥) T j k (λ n none. absurd none) only

  -- what follows from what is left under the other names
  pub ran_only : (T : FileName → Type 0) (P : Folder → Type 0) (j k : Joint D F) → ((folder : Folder) → AsAtBut d f T j folder → P folder) → OnlyTouches d f T j k → Ran d f P j k
  ran_only T P j k more only = ran_more d f (AsAtBut d f T j) P more j k only.run

  -- what a crash leaves of all names
  pub image_leaves : (j : Joint D F) (folder : Folder) → IsImage d f j folder → (n : FileName) → MayLeave d f j n (folder n)
  image_leaves j folder image n = record {
    held = λ x held is. subst (λ (m : FileName). f.may_leave x (folder m)) is (image.held x held);
    free = λ out. image.others n out;
  }

  leaves_image : (j : Joint D F) (folder : Folder) → AsAtBut d f (λ n. ⊥) j folder → IsImage d f j folder
  leaves_image j folder each = record { held = λ x held. (each (f.name x) (λ no. no)).held x held refl; others = λ n out. (each n (λ no. no)).free out }

  -- reads behind a run
  pub ran_reads : (P : Folder → Type 0) (start j k : Joint D F) → Ran d f P start j → OnlyReads d f j k → Ran d f P start k
  ran_reads P start j k so_far only = ran_on d f P start j k so_far (ran_only (λ n. ⊥) P j k (λ folder each. ran_stands d f P start j so_far folder (leaves_image j folder each)) only)

  pub now_reads : (P : Folder → Type 0) (j k : Joint D F) → LeavesNow d f P j → OnlyReads d f j k → LeavesNow d f P k
  now_reads P j k here only = ran_stands d f P j k (ran_reads P j j k (rests here) only)

  -- ---- what reads of files that are held now say

  module _ (old new : D) (files : List F) (only : OnlyReads d f (alone old) (holding new files)) where
    none_held : (n : FileName) → IsFree d f (alone old) n
    none_held n x held = absurd held

    pub stands_free : IsTrue (d.is_told old) → (n : FileName) → IsFree d f (holding new files) n → d.stands new n ≡ d.stands old n
    stands_free told n out = (only.stands told n (d.stands new n) (λ no. no) (record { held = λ x held is. absurd (out x held (sym is)); free = λ out. refl })).free (none_held n)

    pub stands_held : IsTrue (d.is_told old) → (x : F) → IsHeld files x → ((y : F) → IsHeld files y → f.name y ≡ f.name x → f.seen x ≡ f.seen y) → d.stands old (f.name x) ≡ Some (f.seen x)
    stands_held told x held one = sym ((only.stands told (f.name x) (Some (f.seen x)) (λ no. no) (record { held = λ y there is. ap Some (one y there is); free = λ out. absurd (out x held refl) })).free (none_held (f.name x)))

    pub leaves_free : (n : FileName) (c : Image) → IsFree d f (holding new files) n → d.may_leave new n c → d.may_leave old n c
    leaves_free n c out left = (only.no_more n c (λ no. no) (record { held = λ x held is. absurd (out x held (sym is)); free = λ out. left })).free (none_held n)

    pub leaves_held : (x : F) → IsHeld files x → ((y : F) → IsHeld files y → f.name y ≡ f.name x → x ≡ y) → NoMore (d.may_leave old (f.name x)) (f.may_leave x)
    leaves_held x held one c left = (only.no_more (f.name x) c (λ no. no) (record { held = λ y there is. subst (λ (z : F). f.may_leave z c) (one y there is) left; free = λ out. absurd (out x held refl) })).free (none_held (f.name x))

  -- where none is held
  pub stands_all : (old new : D) → OnlyReads d f (alone old) (alone new) → IsTrue (d.is_told old) → (n : FileName) → d.stands new n ≡ d.stands old n
  stands_all old new only told n = stands_free old new [] only told n (λ x held. absurd held)

  pub leaves_all : (old new : D) → OnlyReads d f (alone old) (alone new) → (n : FileName) (c : Image) → d.may_leave new n c → d.may_leave old n c
  leaves_all old new only n c left = leaves_free old new [] only n c (λ x held. absurd held) left

  module _ (disk_now : (x : D) (n : FileName) (c : Image) → d.left_since x (d.moment x) n c → d.may_leave x n c) (file_now : (x : F) (c : Image) → f.left_since x (f.moment x) c → f.may_leave x c) where
    -- under a name that isn't touched a crash in the run left what it might have left before
    pub untouched : (T : FileName → Type 0) (old new : D) → Touches d T old new → (n : FileName) (c : Image) → ¬ T n → d.left_since new (d.moment old) n c → d.may_leave old n c
    untouched T old new run n c apart left = ⊎_elim (λ past. disk_now old n c past) (λ now. now) (run.nothing_else (d.moment old) n c (omega arith) apart left)

    -- ---- one step

    module _ (T : FileName → Type 0) (S : Type 0) (j k : Joint D F) where
      kept_between : (folder : Folder) → IsBetween d f j k folder → (x : F) → IsHeld j.files x → Kept d f S j k x → f.may_leave x (folder (f.name x))
      kept_between folder image x held (on there) = file_now x (folder (f.name x)) (image.held x x held there refl)
      kept_between folder image x held (read y there only) = only.moments.each (folder (f.name x)) (image.held x y held there only.name)
      kept_between folder image x held (given out no_more stands) = ⊎_elim (λ left. left) (λ left. no_more (folder (f.name x)) left) (image.given x held out)

      left_between : (folder : Folder) → IsBetween d f j k folder → (n : FileName) → IsFree d f j n → Left d f S j k n → d.may_leave j.disk n (folder n)
      left_between folder image n out (free there same no_more since) = since (folder n) (image.others n out there)
      left_between folder image n out (taken y held is no_more stood) =
          subst (λ (m : FileName). d.may_leave j.disk m (folder m)) is (⊎_elim (λ left. left)
          (λ left. subst (λ (m : FileName). d.may_leave j.disk m (folder (f.name y))) (sym is) (no_more (folder (f.name y)) left)) (image.taken y held (subst (IsFree d f j) (sym is) out)))

      kept_leaves : (n : FileName) (c : Image) → MayLeave d f k n c → (x : F) → f.name x ≡ n → Kept d f S j k x → f.may_leave x c
      kept_leaves n c left x is (on there) = left.held x there is
      kept_leaves n c left x is (read y there only) = only.no_more c (left.held y there (only.name ∙ is))
      kept_leaves n c left x is (given out no_more stands) = no_more c (subst (λ (m : FileName). d.may_leave k.disk m c) (sym is) (left.free (subst (IsFree d f k) is out)))

      left_leaves : (n : FileName) (c : Image) → MayLeave d f k n c → Left d f S j k n → d.may_leave j.disk n c
      left_leaves n c left (free there same no_more since) = no_more c (left.free there)
      left_leaves n c left (taken y held is no_more stood) = no_more c (left.held y held is)

      kept_stands : S → (n : FileName) (c : Image) → StandsUnder d f k n c → (x : F) → f.name x ≡ n → Kept d f S j k x → c ≡ Some (f.seen x)
      kept_stands told n c under x is (on there) = under.held x there is
      kept_stands told n c under x is (read y there only) = under.held y there (only.name ∙ is) ∙ ap Some only.seen
      kept_stands told n c under x is (given out no_more stands) = under.free (subst (IsFree d f k) is out) ∙ ap (d.stands k.disk) (sym is) ∙ stands told

      left_stands : S → (n : FileName) (c : Image) → StandsUnder d f k n c → Left d f S j k n → c ≡ d.stands j.disk n
      left_stands told n c under (free there same no_more since) = under.free there ∙ same
      left_stands told n c under (taken y held is no_more stood) = under.held y held is ∙ sym (stood told)

      module _ (kept : (x : F) → IsHeld j.files x → ¬ T (f.name x) → Kept d f S j k x) (left : (n : FileName) → IsFree d f j n → ¬ T n → Left d f S j k n) where
        not_touched : (x : F) (n : FileName) → f.name x ≡ n → ¬ T n → ¬ T (f.name x)
        not_touched x n is apart touched = apart (subst T is touched)

        pub step_between : (folder : Folder) → IsBetween d f j k folder → AsAtBut d f T j folder
        step_between folder image n apart = record {
          held = λ x held is. subst (λ (m : FileName). f.may_leave x (folder m)) is (kept_between folder image x held (kept x held (not_touched x n is apart)));
          free = λ out. left_between folder image n out (left n out apart);
        }

        pub step_leaves : (n : FileName) (c : Image) → ¬ T n → MayLeave d f k n c → MayLeave d f j n c
        step_leaves n c apart leaves = record {
          held = λ x held is. kept_leaves n c leaves x is (kept x held (not_touched x n is apart));
          free = λ out. left_leaves n c leaves (left n out apart);
        }

        pub step_after : (folder : Folder) → IsImage d f k folder → AsAtBut d f T j folder
        step_after folder image n apart = step_leaves n (folder n) apart (image_leaves k folder image n)

    pub step : (T : FileName → Type 0) (j k : Joint D F) → ((x : F) → IsHeld j.files x → ¬ T (f.name x) → Kept d f (IsTrue (d.is_told j.disk)) j k x) → ((n : FileName) → IsFree d f j n → ¬ T n → Left d f (IsTrue (d.is_told j.disk)) j k n)
        → d.is_told k.disk ≡ d.is_told j.disk → d.keeps_model k.disk ≡ d.keeps_model j.disk → OnlyTouches d f T j k
    step T j k kept left told model =
        let S : Type 0 = IsTrue (d.is_told j.disk) in
        record {
          stands = λ is n c apart under. record {
            held = λ x held same. kept_stands T S j k is n c under x same (kept x held (not_touched T S j k kept left x n same apart));
            free = λ out. left_stands T S j k is n c under (left n out apart);
          };
          no_more = step_leaves T S j k kept left;
          run = then_to j k (rests (λ folder image n apart. image_leaves j folder image n)) (step_between T S j k kept left) (step_after T S j k kept left);
          told = told;
          model = model;
        }

    -- a name that isn't touched, and that nobody holds afterwards
    pub left_by : (T : FileName → Type 0) (S : Type 0) (j k : Joint D F) → Touches d T j.disk k.disk → (n : FileName) → ¬ T n → IsFree d f k n → Left d f S j k n
    left_by T S j k run n apart out = free out (run.same n apart) (λ c. run.no_more n c apart) (λ c. untouched T j.disk k.disk run n c apart)

    -- ---- single calls, whatever other files are held

    module _ (files : List F) where
      -- no held file has the name
      abbrev pub IsApart : FileName → Type 0
      IsApart n = (x : F) → IsHeld files x → n ≢ f.name x

      free_with : (x : D) (a : F) (n : FileName) → n ≢ f.name a → IsApart n → IsFree d f (holding x (a ∷ files)) n
      free_with x a n apart out y held = ⊎_elim (λ is. subst (λ (z : F). n ≢ f.name z) is apart) (λ there. out y there) held

      -- the disk keeps to itself: nothing is taken or given
      pub disk_step : (T : FileName → Type 0) (x y : D) → Touches d T x y → OnlyTouches d f T (holding x files) (holding y files)
      disk_step T x y run =
          let j : Joint D F = holding x files in
          let k : Joint D F = holding y files in
          step T j k (λ z held apart. on held) (λ n out apart. left_by T (IsTrue (d.is_told x)) j k run n apart out) run.told run.model

      -- a file of a touched name is taken
      pub take_step : (T : FileName → Type 0) (x y : D) (a : F) → Touches d T x y → T (f.name a) → OnlyTouches d f T (holding x files) (holding y (a ∷ files))
      take_step T x y a run touched =
          let j : Joint D F = holding x files in
          let k : Joint D F = holding y (a ∷ files) in
          step T j k (λ z held apart. on (inr held)) (λ n out apart. left_by T (IsTrue (d.is_told x)) j k run n apart (free_with y a n (λ is. apart (subst T (sym is) touched)) out)) run.told run.model

      -- and written
      pub write_step : (T : FileName → Type 0) (x : D) (a b : F) → f.name b ≡ f.name a → T (f.name a) → OnlyTouches d f T (holding x (a ∷ files)) (holding x (b ∷ files))
      write_step T x a b same touched =
          step T (holding x (a ∷ files)) (holding x (b ∷ files)) (λ z held apart. ⊎_elim (λ is. absurd (apart (subst (λ (w : F). T (f.name w)) is touched))) (λ there. on (inr there)) held)
          (λ n out apart. free (free_with x b n (λ is. out a (inl refl) (is ∙ same)) (λ z there. out z (inr there))) refl (λ c left. left) (λ c left. disk_now x n c left)) refl refl

      -- and given back
      pub give_step : (T : FileName → Type 0) (x y : D) (a : F) → Touches d T x y → T (f.name a) → OnlyTouches d f T (holding x (a ∷ files)) (holding y files)
      give_step T x y a run touched =
          let j : Joint D F = holding x (a ∷ files) in
          let k : Joint D F = holding y files in
          step T j k (λ z held apart. ⊎_elim (λ is. absurd (apart (subst (λ (w : F). T (f.name w)) is touched))) (λ there. on there) held)
          (λ n out apart. left_by T (IsTrue (d.is_told x)) j k run n apart (λ z there. out z (inr there))) run.told run.model

      -- a file is opened
      pub open_step : (touched : FileName) (x y : D) (a : F) → Opening d f touched x y a → OnlyReads d f (holding x files) (holding y (a ∷ files))
      open_step touched x y a opening =
          let run = opening.touches in
          let here : (n : FileName) → n ≡ touched → Left d f (IsTrue (d.is_told x)) (holding x files) (holding y (a ∷ files)) n = λ n is. taken a (inl refl) (opening.name ∙ sym is)
          (λ c left. subst (λ (m : FileName). d.may_leave x m c) (sym is) (opening.crash c left)) (λ told. ap (d.stands x) is ∙ opening.stood told) in
          let elsewhere : (n : FileName) → IsFree d f (holding x files) n → n ≢ touched → Left d f (IsTrue (d.is_told x)) (holding x files) (holding y (a ∷ files)) n = λ n out apart. free (free_with y a n (λ is. apart (is ∙ opening.name)) out) (run.same n apart)
          (λ c. run.no_more n c apart) (λ c. untouched (λ m. m ≡ touched) x y run n c apart) in
          step (λ n. ⊥) (holding x files) (holding y (a ∷ files)) (λ z held apart. on (inr held)) (λ n out none. ⊎_elim (here n) (elsewhere n out) (same_or_other touched n)) run.told run.model

      -- and read
      pub read_step : (x : D) (a b : F) → IsOnlyRead f a b → OnlyReads d f (holding x (a ∷ files)) (holding x (b ∷ files))
      read_step x a b only =
          step (λ n. ⊥) (holding x (a ∷ files)) (holding x (b ∷ files)) (λ z held apart. ⊎_elim (λ is. subst (Kept d f (IsTrue (d.is_told x)) (holding x (a ∷ files)) (holding x (b ∷ files))) is (read b (inl refl) only)) (λ there. on (inr there)) held)
          (λ n out apart. free (free_with x b n (λ is. out a (inl refl) (is ∙ only.name)) (λ z there. out z (inr there))) refl (λ c left. left) (λ c left. disk_now x n c left)) refl refl

      -- and given back as it was
      pub return_step : (x y : D) (a : F) → Giving d f x y a → f.is_told a ≡ d.is_told x → IsApart (f.name a) → OnlyReads d f (holding x (a ∷ files)) (holding y files)
      return_step x y a giving told alone =
          let run = giving.touches in
          let j : Joint D F = holding x (a ∷ files) in
          let k : Joint D F = holding y files in
          step (λ n. ⊥) j k (λ z held apart. ⊎_elim (λ is. subst (Kept d f (IsTrue (d.is_told x)) j k) is (given alone giving.crash (λ is_told. giving.stands is_told (subst IsTrue (sym told) is_told)))) (λ there. on there) held)
          (λ n out apart. left_by (λ m. m ≡ f.name a) (IsTrue (d.is_told x)) j k run n (out a (inl refl)) (λ z there. out z (inr there))) run.told run.model

      -- all three
      pub look_step : (touched : FileName) (x y z : D) (a b : F) → Opening d f touched x y a → IsOnlyRead f a b → Giving d f y z b → IsApart touched → OnlyReads d f (holding x files) (holding z files)
      look_step touched x y z a b opening only giving alone =
          let named : f.name b ≡ touched = only.name ∙ opening.name in
          only_then (λ n. ⊥) (holding x files) (holding y (a ∷ files)) (holding z files) (open_step touched x y a opening)
          (only_then (λ n. ⊥) (holding y (a ∷ files)) (holding y (b ∷ files)) (holding z files) (read_step y a b only)
          (return_step y z b giving (only.told ∙ opening.told ∙ sym opening.touches.told) (subst IsApart (sym named) alone)))

    -- the same files, in another order
    pub same_step : (x : D) (before after : List F) → ((z : F) → IsHeld before z → IsHeld after z) → ((z : F) → IsHeld after z → IsHeld before z) → OnlyReads d f (holding x before) (holding x after)
    same_step x before after there back =
        step (λ n. ⊥) (holding x before) (holding x after) (λ z held apart. on (there z held))
        (λ n out apart. free (λ z held. out z (back z held)) refl (λ c left. left) (λ c left. disk_now x n c left)) refl refl
