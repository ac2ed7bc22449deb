-- Pattern files that come to nothing.
use Rattle.std.proofs.Common.{◌≡◌, refl, sym, ◌∙◌, subst, ℕ, List, [], ◌⊎◌, inl, inr, Option, Some}
use Rattle.std.specs.Prelude.{Result, Ok, Err, ◌≢◌}
use Rattle.std.proofs.KnownBytes.{Appends-nil}
use Rattle.cep_session.specs.Handling.{Given}
use Rattle.cep_session.specs.Meaning.{Meaning}
use Rattle.cep_session.specs.Outcome.{Outcome}
use Rattle.cep_session.specs.Progress.{Ended}
use Rattle.cep_session.proofs.Told.{untouched, nothing_owed}
use Rattle.cep_session.specs.declared.status.Status.{Status}
use Rattle.cep_session.specs.declared.status.Status.TheVariants as status
use Rattle.cep_outside.specs.Outside.{Rose}
use Rattle.shared_buffer.specs.declared.buffer.Held.{Held}
use Rattle.pattern_rules.specs.declared.rule.Fault.{Fault}
use Rattle.cep_cli.specs.declared.pattern.PatternStop.{PatternStop}
use Rattle.cep_cli.specs.declared.pattern.PatternStop.TheVariants as stop
use Rattle.cep_cli.specs.Headline.{Faults, IsBlamed, IsPatternJudged}
use Rattle.cep_cli.specs.Pattern.{Tells}
use Rattle.cep_cli.specs.Stop.{IsToldBy}
use Rattle.told_list.specs.Grows.{Grows}
use Rattle.told_list.proofs.GrowsLaws.{GrowsPart-nil, GrowsPart-whole}
use Rattle.cep_cli.specs.Verdict.{HasPrinted, HasShown, IfBegun, IfOfInput, IfUnread}

module _ {T : Type 0} (P : Result T Fault → Type 0) (one : (a b : Result T Fault) → P a → P b → a ≡ b) where
  never_both : (v : T) (e : Fault) → P (Ok v) → P (Err e) → ⊥
  never_both v e x y = let bad = one (Ok v) (Err e) x y in cc

  same_fault : (d e : Fault) → P (Err d) → P (Err e) → d ≡ e
  same_fault d e x y = inner (one (Err d) (Err e) x y) where
    inner : ◌≡◌ {A = Result T Fault} (Err d) (Err e) → d ≡ e
    inner h = cc

  -- what is to be refused is refused, or it isn't known
  refused-stops : (why : PatternStop) (s : Status) (fault : Fault) → IsToldBy why s → Tells P (Err why) → P (Err fault)
      → (s ≡ status.PatternRefused fault.code fault.place) ⊎ ((s ≡ status.PatternFault) ⊎ (s ≡ status.NoMemory))
  refused-stops stop.NoMemory s fault is told x = inr (inr is)
  refused-stops stop.Failed s fault is told x = inr (inl is)
  refused-stops (stop.Refused p c) s fault is told x =
      let same = same_fault (record { place = p; code = c }) fault told x in
      inl (is ∙ (λ i. status.PatternRefused (same i).code (same i).place))

  -- it is refused only as its bytes are
  only-stops : (why : PatternStop) (s : Status) (code place : ℕ) → IsToldBy why s → Tells P (Err why) → s ≡ status.PatternRefused code place
      → P (Err (record { place = place; code = code }))
  only-stops stop.NoMemory s code place is told it = absurd (inner (sym is ∙ it)) where
    inner : status.NoMemory ≡ status.PatternRefused code place → ⊥
    inner h = cc
  only-stops stop.Failed s code place is told it = absurd (inner (sym is ∙ it)) where
    inner : status.PatternFault ≡ status.PatternRefused code place → ⊥
    inner h = cc
  only-stops (stop.Refused p c) s code place is told it = inner (sym is ∙ it) where
    inner : status.PatternRefused c p ≡ status.PatternRefused code place → P (Err (record { place = place; code = code }))
    inner h =
        let codes : c ≡ code = cc in
        let places : p ≡ place = cc in
        subst (λ k. P (Err (record { place = place; code = k }))) codes (subst (λ k. P (Err (record { place = k; code = c }))) places told)

  pub stopped-judged : (why : PatternStop) (s : Status) (untouched : Type 0) → IsToldBy why s → Tells P (Err why) → untouched
      → IsPatternJudged (λ fault. P (Err fault)) s untouched
  stopped-judged why s untouched is told spared = record {
    only = λ code place it. only-stops why s code place is told it;
    refused = λ fault x. refused-stops why s fault is told x;
    spared = λ fault x. spared;
  }

  -- what is accepted is not refused
  pub accepted-judged : (v : T) (s : Status) (untouched : Type 0) → P (Ok v) → ((code place : ℕ) → s ≡ status.PatternRefused code place → ⊥)
      → IsPatternJudged (λ fault. P (Err fault)) s untouched
  accepted-judged v s untouched told never = record {
    only = λ code place it. absurd (never code place it);
    refused = λ fault x. absurd (never_both v fault told x);
    spared = λ fault x. absurd (never_both v fault told x);
  }

  pub accepted-stops : (why : PatternStop) (v : T) → Tells P (Err why) → P (Ok v) → (why ≡ stop.NoMemory) ⊎ (why ≡ stop.Failed)
  accepted-stops stop.NoMemory v told x = inl refl
  accepted-stops stop.Failed v told x = inr refl
  accepted-stops (stop.Refused p c) v told x = absurd (never_both v (record { place = p; code = c }) x told)

  pub same-accepted : (v w : T) → P (Ok v) → P (Ok w) → v ≡ w
  same-accepted v w x y = inner (one (Ok v) (Ok w) x y) where
    inner : ◌≡◌ {A = Result T Fault} (Ok v) (Ok w) → v ≡ w
    inner h = cc

-- why a stopped file is refused, where it did not fail and memory was there
pub fault-told : {T : Type 0} (P : Result T Fault → Type 0) (why : PatternStop) (s : Status) → IsToldBy why s → Tells P (Err why)
    → (why ≡ stop.Failed → ⊥) → s ≢ status.NoMemory → (e : Fault) × P (Err e) × (s ≡ status.PatternRefused e.code e.place)
fault-told P stop.NoMemory s is told good memory = absurd (memory is)
fault-told P stop.Failed s is told good memory = absurd (good refl)
fault-told P (stop.Refused p c) s is told good memory = (record { place = p; code = c }, told, is)

-- nothing was printed, for want of memory
pub nothing_yet : (out : Option (List ℕ)) (text : List ℕ) → HasPrinted status.NoMemory out out text
nothing_yet out text = record { front = []; back = text; is = refl; appends = Appends-nil out }

-- nothing was printed
pub printed-nothing : (why : PatternStop) (s : Status) (out : Option (List ℕ)) (text : List ℕ) → IsToldBy why s
    → (why ≡ stop.NoMemory) ⊎ (why ≡ stop.Failed) → HasPrinted s out out text
printed-nothing stop.NoMemory s out text is h = subst (λ t. HasPrinted t out out text) (sym is) (nothing_yet out text)
printed-nothing stop.Failed s out text is h = subst (λ t. HasPrinted t out out text) (sym is) tt
printed-nothing (stop.Refused p c) s out text is (inl h) = cc
printed-nothing (stop.Refused p c) s out text is (inr h) = cc

-- no size was shown
pub shown-nothing : (why : PatternStop) (s : Status) (at : Option (List Held)) (sizes : List Held) → IsToldBy why s
    → (why ≡ stop.NoMemory) ⊎ (why ≡ stop.Failed) → HasShown s at at sizes
shown-nothing stop.NoMemory s at sizes is h = subst (λ t. HasShown t at at sizes) (sym is) (GrowsPart-nil at sizes)
shown-nothing stop.Failed s at sizes is h = subst (λ t. HasShown t at at sizes) (sym is) tt
shown-nothing (stop.Refused p c) s at sizes is (inl h) = cc
shown-nothing (stop.Refused p c) s at sizes is (inr h) = cc

-- nothing was read, written or shown
pub ended-nothing : (m : Meaning Held) (allowed : ℕ) (why : PatternStop) (s : Status) (all : List ℕ) (left : Option (List ℕ)) (now : Given Held)
    → IsToldBy why s → (why ≡ stop.NoMemory) ⊎ (why ≡ stop.Failed)
    → left ≡ Some all → Ended m allowed s all left now now
ended-nothing m allowed stop.NoMemory s all left now is h read =
    untouched m allowed s all left now read (λ A flow. subst (λ t. Outcome m flow allowed t all [] []) (sym is) (nothing_owed m allowed all A flow))
ended-nothing m allowed stop.Failed s all left now is h read =
    untouched m allowed s all left now read (λ A flow. subst (λ t. Outcome m flow allowed t all [] []) (sym is) (refl, refl))
ended-nothing m allowed (stop.Refused p c) s all left now is (inl h) read = cc
ended-nothing m allowed (stop.Refused p c) s all left now is (inr h) read = cc

-- no stop tells of the input
pub stopped-unread : (why : PatternStop) (s : Status) → IsToldBy why s → IfOfInput s ⊥
stopped-unread stop.NoMemory s is = subst (λ t. IfOfInput t ⊥) (sym is) tt
stopped-unread stop.Failed s is = subst (λ t. IfOfInput t ⊥) (sym is) tt
stopped-unread (stop.Refused p c) s is = subst (λ t. IfOfInput t ⊥) (sym is) tt

-- nor does a text that was written, or a front of it
pub shown-unread : (s : Status) → (s ≡ status.Done) ⊎ (s ≡ status.WriteFault) → IfOfInput s ⊥
shown-unread s (inl is) = subst (λ t. IfOfInput t ⊥) (sym is) tt
shown-unread s (inr is) = subst (λ t. IfOfInput t ⊥) (sym is) tt

-- ---- whom a status blames

-- a run that began never blames the pattern file, by a fault or by a refusal
pub begun-fault : (s : Status) → IfBegun s → s ≡ status.PatternFault → ⊥
begun-fault s begun is = subst IfBegun is begun

pub begun-refused : (s : Status) → IfBegun s → (code place : ℕ) → s ≡ status.PatternRefused code place → ⊥
begun-refused s begun code place is = subst IfBegun is begun

pub stopped-blames : (why : PatternStop) (s : Status) (before now : Faults) → IsToldBy why s → (why ≡ stop.Failed → Rose before.file now.file)
    → IsBlamed s before now
stopped-blames stop.NoMemory s before now is failed = record {
  file = λ it. let bad : status.NoMemory ≡ status.PatternFault = sym is ∙ it in cc;
  input = λ it. let bad : status.NoMemory ≡ status.ReadFault = sym is ∙ it in cc;
  output = λ it. let bad : status.NoMemory ≡ status.WriteFault = sym is ∙ it in cc;
}
stopped-blames stop.Failed s before now is failed = record {
  file = λ it. failed refl;
  input = λ it. let bad : status.PatternFault ≡ status.ReadFault = sym is ∙ it in cc;
  output = λ it. let bad : status.PatternFault ≡ status.WriteFault = sym is ∙ it in cc;
}
stopped-blames (stop.Refused p c) s before now is failed = record {
  file = λ it. let bad : status.PatternRefused c p ≡ status.PatternFault = sym is ∙ it in cc;
  input = λ it. let bad : status.PatternRefused c p ≡ status.ReadFault = sym is ∙ it in cc;
  output = λ it. let bad : status.PatternRefused c p ≡ status.WriteFault = sym is ∙ it in cc;
}

-- what shows a text never blames the input
pub shown-read : (s : Status) → IfOfInput s ⊥ → s ≡ status.ReadFault → ⊥
shown-read s shown is = subst (λ t. IfOfInput t ⊥) is shown

-- ---- the judgement of a pattern in other words

pub judged-as : (p q : Fault → Type 0) (s : Status) (u v : Type 0) → ((e : Fault) → p e → q e) → ((e : Fault) → q e → p e) → (u → v)
    → IsPatternJudged p s u → IsPatternJudged q s v
judged-as p q s u v there back more judged = record {
  only = λ code place is. there (record { place = place; code = code }) (judged.only code place is);
  refused = λ fault x. judged.refused fault (back fault x);
  spared = λ fault x. more (judged.spared fault (back fault x));
}

-- ---- a load that ran

module _ (s : Status) (ran : (s ≡ status.Done) ⊎ ((s ≡ status.WriteFault) ⊎ (s ≡ status.NoMemory))) where
  -- what holds of the three statuses with which it may end
  by_status : (P : Status → Type 0) → P status.Done → P status.WriteFault → P status.NoMemory → P s
  by_status P done unwritten short = inner ran where
    inner : (s ≡ status.Done) ⊎ ((s ≡ status.WriteFault) ⊎ (s ≡ status.NoMemory)) → P s
    inner (inl is) = subst P (sym is) done
    inner (inr (inl is)) = subst P (sym is) unwritten
    inner (inr (inr is)) = subst P (sym is) short

  pub load-of-input : IfOfInput s ⊥
  load-of-input = by_status (λ t. IfOfInput t ⊥) tt tt tt

  pub load-unread : (P : Type 0) → IfUnread s P
  load-unread P = by_status (λ t. IfUnread t P) tt tt tt

  pub load-never-words : s ≡ status.BadWords → ⊥
  load-never-words = by_status (λ t. t ≡ status.BadWords → ⊥) (λ is. cc) (λ is. cc) (λ is. cc)

  pub load-never-fault : s ≡ status.PatternFault → ⊥
  load-never-fault = by_status (λ t. t ≡ status.PatternFault → ⊥) (λ is. cc) (λ is. cc) (λ is. cc)

  pub load-never-refused : (code place : ℕ) → s ≡ status.PatternRefused code place → ⊥
  load-never-refused code place = by_status (λ t. t ≡ status.PatternRefused code place → ⊥) (λ is. cc) (λ is. cc) (λ is. cc)

-- where nothing failed and memory was there it is done
pub load-done : (s : Status) → (s ≡ status.Done) ⊎ ((s ≡ status.WriteFault) ⊎ (s ≡ status.NoMemory)) → (s ≡ status.WriteFault → ⊥)
    → s ≢ status.NoMemory → s ≡ status.Done
load-done s (inl is) good memory = is
load-done s (inr (inl is)) good memory = absurd (good is)
load-done s (inr (inr is)) good memory = absurd (memory is)

-- all sizes were shown before the text was written
pub load-shown : (s : Status) (at now : Option (List Held)) (sizes : List Held) → (s ≡ status.Done) ⊎ (s ≡ status.WriteFault) → Grows at now sizes
    → HasShown s at now sizes
load-shown s at now sizes (inl is) grows = subst (λ t. HasShown t at now sizes) (sym is) grows
load-shown s at now sizes (inr is) grows = subst (λ t. HasShown t at now sizes) (sym is) (GrowsPart-whole at now sizes grows)

-- more is as it was
pub unread-more : (s : Status) (u v : Type 0) → (u → v) → IfUnread s u → IfUnread s v
unread-more status.Done u v more x = tt
unread-more status.NoMemory u v more x = tt
unread-more status.BadWords u v more x = more x
unread-more status.PatternFault u v more x = more x
unread-more (status.PatternRefused code place) u v more x = more x
unread-more (status.BadRow row cause) u v more x = tt
unread-more status.TooManyRows u v more x = tt
unread-more status.ReadFault u v more x = tt
unread-more status.WriteFault u v more x = tt
