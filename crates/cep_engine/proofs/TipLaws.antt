-- The list of a tip is read along the buffer's path, and its hold is given back.
use Rattle.std.proofs.Common.{◌≡◌, refl, sym, ◌∙◌, ap, subst, ℕ, zero, suc, ◌+◌, ◌<◌, ◌≤◌, arith, List, [], ◌∷◌, ◌++◌, length, map, take, get_or}
use Rattle.std.specs.Prelude.{option_and_then}
use Rattle.std.specs.Option.{is_some}
use Rattle.std.proofs.lemmas.List.{append-nil, take_more, take_all}
use Rattle.cep_event.specs.declared.event.Event.{Event}
use Rattle.cep_plan.specs.declared.plan.Plan.{Plan}
use Rattle.cep_plan.specs.declared.item.Taken.{Taken}
use Rattle.cep_plan.specs.Entry.{taken_of}
use Rattle.match_labels.specs.Label.{label_of}
use Rattle.match_extract.specs.Path.{IsPath}
use Rattle.shared_buffer.specs.Content.{Content as BufferContent}
use Rattle.shared_buffer.specs.Edges.{find_edge}
use Rattle.shared_buffer.specs.Exact.{ReleasesOneHold}
use Rattle.shared_buffer.specs.Facts.{IsConsistent}
use Rattle.shared_buffer.specs.Nodes.{HasEdgeAt}
use Rattle.shared_buffer.specs.Release.{HasHold, KeepsEvents}
use Rattle.shared_buffer.specs.declared.node.Node.{Node}
use Rattle.list_buffer.specs.Held.{Holder, Holds, held_by, both_hold, without_hold}
use Rattle.list_buffer.specs.Listed.{HoldsLists}
use Rattle.list_buffer.proofs.HeldLaws.{held_by-cons, one_hold-here}
use Rattle.list_buffer.proofs.HoldLaws.{HoldsLists-release}
use Rattle.list_buffer.proofs.LaterLaws.{HoldsLists-same}
use Rattle.list_buffer.proofs.PutLaws.{has_hold}
use Rattle.list_buffer.proofs.TraceLaws.{path_of}
use Rattle.run_step.specs.declared.runs.Tip.{Tip}
use Rattle.run_step.specs.Pins.{KeepsPins}
use Rattle.run_step.specs.Runs.{IsTipOf, AreTipsOf}
use Rattle.run_step.proofs.PinLaws.{KeepsPins-trans}
use Rattle.cep_engine.specs.Tips.{IsHolding, IsHeldTip, IsSomeTip, AreHeldTips, Freeing, IsFreeing}
use Rattle.cep_engine.proofs.LoopLaws.{map-push, Each-get}

-- ---- one tip

module _ (plan : Plan) (events : List Event) (holder : Holder) (held : Holds) (tip : Tip) (buffer : BufferContent) (sound : IsConsistent buffer)
    (is : IsHeldTip plan events holder held tip buffer) where
  -- what `release` asks
  pub tip_hold : HasHold buffer.nodes tip.node tip.version
  tip_hold =
      subst (λ (k : ℕ). HasHold buffer.nodes k tip.version) (sym is.tip_is.node_is)
      (subst (λ (v : List ℕ). HasHold buffer.nodes holder.node v) (sym is.tip_is.version_is)
      (has_hold plan events held buffer is.has sound holder.list holder.node is.is_held))

  -- what `extract` asks
  pub tip_edge : HasEdgeAt buffer.nodes tip.node tip.version
  tip_edge = let hold = tip_hold in ap is_some (ap (option_and_then (λ (n : Node). find_edge n.edges tip.version)) hold.found ∙ hold.found_edge)

  -- what `extract` reads
  pub tip_path : IsPath buffer tip.version tip.node (taken_of events holder.list)
  tip_path =
      let label : label_of plan events (holder.list ++ []) ≡ tip.version = ap (label_of plan events) (append-nil holder.list) ∙ sym is.tip_is.version_is in
      subst (λ (k : ℕ). IsPath buffer tip.version k (taken_of events holder.list)) (sym is.tip_is.node_is)
      (subst (λ (v : List ℕ). IsPath buffer v holder.node (taken_of events holder.list)) label
      (path_of plan events held buffer is.has sound holder.list [] holder.node (is.has.stands holder.list holder.node is.is_held)))

  -- what `release` leaves
  pub tip_released : (new : BufferContent) → IsConsistent new → ReleasesOneHold buffer.nodes new.nodes tip.node tip.version
      → KeepsEvents buffer.events new.events new.nodes → HoldsLists plan events (without_hold holder held) new
  tip_released new sound_new releases keeps =
      HoldsLists-release plan events held buffer new is.has sound_new holder is.is_held
      (subst (λ (k : ℕ). ReleasesOneHold buffer.nodes new.nodes k (label_of plan events holder.list)) is.tip_is.node_is
      (subst (λ (v : List ℕ). ReleasesOneHold buffer.nodes new.nodes tip.node v) is.tip_is.version_is releases)) keeps

-- ---- tips that are read one after another

-- where no holder is looked for
abbrev pub no_holder : Holder
no_holder = record { list = []; node = 0 }

pub tips_length : (plan : Plan) (events : List Event) (holders : List Holder) (tips : List Tip) → AreTipsOf plan events holders tips
    → length holders ≡ length tips
tips_length plan events [] [] are = refl
tips_length plan events [] (tip ∷ tips) are = absurd are
tips_length plan events (holder ∷ holders) [] are = absurd are
tips_length plan events (holder ∷ holders) (tip ∷ tips) are = ap suc (tips_length plan events holders tips are.1)

tip_at : (plan : Plan) (events : List Event) (holders : List Holder) (tips : List Tip) (i : ℕ) (d : Holder) (e : Tip)
    → AreTipsOf plan events holders tips → i < length tips → IsTipOf plan events (get_or holders i d) (get_or tips i e)
tip_at plan events [] [] i d e are lt = absurd (omega (arith, lt))
tip_at plan events [] (tip ∷ tips) i d e are lt = absurd are
tip_at plan events (holder ∷ holders) [] i d e are lt = absurd are
tip_at plan events (holder ∷ holders) (tip ∷ tips) zero d e are lt = are.0
tip_at plan events (holder ∷ holders) (tip ∷ tips) (suc i) d e are lt = tip_at plan events holders tips i d e are.1 (omega (arith, lt))

module _ (plan : Plan) (events : List Event) (holders : List Holder) (held : Holds) (tips : List Tip) (buffer : BufferContent)
    (are : AreHeldTips plan events holders held tips buffer) (i : ℕ) (tip : Tip) (at : tip ≡ get_or tips i tip) (lt : i < length tips) where
  pub held_tip_at : IsHeldTip plan events (get_or holders i no_holder) held tip buffer
  held_tip_at = record {
    has = are.has;
    is_held = Each-get (IsHolding held) holders i no_holder (omega (arith, lt, tips_length plan events holders tips are.tips_are)) are.are_held;
    tip_is = subst (IsTipOf plan events (get_or holders i no_holder)) (sym at) (tip_at plan events holders tips i no_holder tip are.tips_are lt);
  }

  pub some_tip_at : IsSomeTip tip buffer
  some_tip_at = record { plan = plan; events = events; holder = get_or holders i no_holder; held = held; is = held_tip_at }

  -- one more list was read
  pub lists_more : (lists more : List (List Taken)) (list : List Taken) → more ≡ lists ++ list ∷ []
      → lists ≡ map (λ holder. taken_of events holder.list) (take i holders) → list ≡ taken_of events (get_or holders i no_holder).list
      → more ≡ map (λ holder. taken_of events holder.list) (take (i + 1) holders)
  lists_more lists more list pushed so_far read =
      pushed ∙ (λ j. so_far j ++ read j ∷ [])
      ∙ sym (ap (map (λ holder. taken_of events holder.list))
      (take_more holders i no_holder (omega (arith, lt, tips_length plan events holders tips are.tips_are)))
      ∙ map-push (λ holder. taken_of events holder.list) (take i holders) (get_or holders i no_holder))

pub lists_all : (plan : Plan) (events : List Event) (holders : List Holder) (tips : List Tip) (lists : List (List Taken)) (i : ℕ)
    → AreTipsOf plan events holders tips → length tips ≤ i
    → lists ≡ map (λ holder. taken_of events holder.list) (take i holders) → lists ≡ map (λ holder. taken_of events holder.list) holders
lists_all plan events holders tips lists i are past is = is
    ∙ ap (map (λ holder. taken_of events holder.list)) (take_all i holders (omega (arith, past, tips_length plan events holders tips are)))

-- ---- tips that are released one after another

-- the first of the tips can be released, and the others after it
pub record FreesOne (plan : Plan) (events : List Event) (held : Holds) (tip : Tip) (tips : List Tip) (buffer : BufferContent) : Type 0 where
  pub holder : Holder
  pub before : Holds
  pub is : IsHeldTip plan events holder before tip buffer
  pub after : (new : BufferContent) → HoldsLists plan events (without_hold holder before) new → Freeing plan events held tips new

frees_first : (plan : Plan) (events : List Event) (held : Holds) (holders : List Holder) (tip : Tip) (tips : List Tip) (buffer : BufferContent)
    → HoldsLists plan events (both_hold held (held_by holders)) buffer → AreTipsOf plan events holders (tip ∷ tips) → FreesOne plan events held tip tips buffer
frees_first plan events held [] tip tips buffer has are = absurd are
frees_first plan events held (holder ∷ holders) tip tips buffer has are = record {
  holder = holder;
  before = both_hold held (held_by (holder ∷ holders));
  is = record {
    has = has;
    is_held = omega (arith, held_by-cons holder holders holder.list holder.node, one_hold-here holder holder.list holder.node refl refl);
    tip_is = are.0;
  };
  after = λ new later. record {
    holders = holders;
    are = record {
      has =
          HoldsLists-same plan events (without_hold holder (both_hold held (held_by (holder ∷ holders)))) (both_hold held (held_by holders)) new
          (λ list key. omega (arith, held_by-cons holder holders list key)) later;
      tips_are = are.1;
    };
  };
}

pub frees_one : (plan : Plan) (events : List Event) (held : Holds) (tip : Tip) (tips : List Tip) (buffer : BufferContent)
    → Freeing plan events held (tip ∷ tips) buffer → FreesOne plan events held tip tips buffer
frees_one plan events held tip tips buffer freeing = frees_first plan events held freeing.holders tip tips buffer freeing.are.has freeing.are.tips_are

pub some_frees : (plan : Plan) (events : List Event) (held : Holds) (tip : Tip) (tips : List Tip) (buffer : BufferContent)
    → Freeing plan events held (tip ∷ tips) buffer → IsSomeTip tip buffer
some_frees plan events held tip tips buffer freeing =
    let one = frees_one plan events held tip tips buffer freeing in
    record { plan = plan; events = events; holder = one.holder; held = one.before; is = one.is }

none_left : (plan : Plan) (events : List Event) (held : Holds) (holders : List Holder) (buffer : BufferContent)
    → HoldsLists plan events (both_hold held (held_by holders)) buffer → AreTipsOf plan events holders [] → HoldsLists plan events held buffer
none_left plan events held [] buffer has are = HoldsLists-same plan events (both_hold held (held_by [])) held buffer (λ list key. omega arith) has
none_left plan events held (holder ∷ holders) buffer has are = absurd are

pub frees_all : (plan : Plan) (events : List Event) (held : Holds) (tips : List Tip) (buffer : BufferContent) → length tips ≡ 0
    → Freeing plan events held tips buffer → HoldsLists plan events held buffer
frees_all plan events held [] buffer none freeing = none_left plan events held freeing.holders buffer freeing.are.has freeing.are.tips_are
frees_all plan events held (tip ∷ tips) buffer none freeing = absurd (omega (arith, none))

-- one more was released
pub freed_turn : (tips : List Tip) (tip : Tip) (rest later : List Tip) {left after : ℕ} (old buffer new : BufferContent) → rest ≡ tip ∷ later
    → length later ≡ after → IsFreeing tips rest left old buffer
    → ((plan : Plan) (events : List Event) (holder : Holder) (held : Holds) → IsHeldTip plan events holder held tip buffer
    → HoldsLists plan events (without_hold holder held) new) → KeepsPins buffer new
    → IsFreeing tips later after old new
freed_turn tips tip rest later old buffer new parts counted before released keeps = record {
  counted = counted;
  freeing = λ plan events holders held are.
      let one = frees_one plan events held tip later buffer (subst (λ (l : List Tip). Freeing plan events held l buffer) parts
      (before.freeing plan events holders held are)) in
      one.after new (released plan events one.holder one.before one.is);
  pins = KeepsPins-trans old buffer new before.pins keeps;
}
