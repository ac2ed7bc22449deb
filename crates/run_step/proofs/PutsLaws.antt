-- Takes are put one after the other.
use Rattle.std.proofs.Common.{◌≡◌, refl, sym, ◌∙◌, ap, subst, ℕ, arith, List, [], ◌∷◌, ◌++◌, length, map, append_assoc}
use Rattle.std.proofs.lemmas.List.{append-nil, map-append}
use Rattle.cep_event.specs.declared.event.Event.{Event}
use Rattle.cep_plan.specs.declared.plan.Plan.{Plan}
use Rattle.cep_plan.specs.Entry.{Entry}
use Rattle.shared_buffer.specs.Content.{Content as BufferContent}
use Rattle.list_buffer.specs.Held.{Holder, Holds, held_by, both_hold, with_hold}
use Rattle.list_buffer.proofs.HeldLaws.{held_by-cons, held_by-append}
use Rattle.run_step.specs.declared.passing.Take.{Take}
use Rattle.run_step.specs.declared.passing.Grown.{Grown}
use Rattle.run_step.specs.Runs.{Waiter}
use Rattle.run_step.specs.Taking.{taking, IsTakeOf, AreTakesOf, IsGrownOf, AreGrownOf}
use Rattle.run_step.specs.Putting.{CanPutAll, CanPutSome, HasPut, HasPutAll, grown_holder, PuttingSome}

AreGrownOf-push : (plan : Plan) (events : List Event) (holders : List Holder) (grown : List Grown) (holder : Holder) (one : Grown)
    → AreGrownOf plan events holders grown → IsGrownOf plan events holder one → AreGrownOf plan events (holders ++ holder ∷ []) (grown ++ one ∷ [])
AreGrownOf-push plan events [] [] holder one are is = (is, tt)
AreGrownOf-push plan events [] (g ∷ grown) holder one are is = absurd are
AreGrownOf-push plan events (h ∷ holders) [] holder one are is = absurd are
AreGrownOf-push plan events (h ∷ holders) (g ∷ grown) holder one are is = (are.0, AreGrownOf-push plan events holders grown holder one are.1 is)

module _ (plan : Plan) (events : List Event) (position event : ℕ) (waiters : List Waiter) (held : Holds) where
  -- the first of the takes can be put, and the others after it
  pub record PutsOne (grown : List Grown) (taken : Take) (takes : List Take) (buffer : BufferContent) : Type 0 where
    pub waiter : Waiter
    pub rest : List Waiter
    pub before : Holds
    pub can : CanPutAll plan events position event (waiter ∷ rest) before buffer
    pub take_is : IsTakeOf plan events position waiter taken
    pub after : (one : Grown) (new : BufferContent) → HasPut plan events position event waiter rest before one new
        → PuttingSome plan events position event waiters held (grown ++ one ∷ []) takes new

  puts_first : (grown : List Grown) (taken : Take) (takes : List Take) (buffer : BufferContent) (done rest : List Waiter) (holders : List Holder)
      → waiters ≡ done ++ rest
      → map (λ holder. holder.list) holders ≡ map (λ waiter. taking waiter position) done → AreGrownOf plan events holders grown
      → CanPutAll plan events position event rest (both_hold held (held_by holders)) buffer
      → AreTakesOf plan events position rest (taken ∷ takes) → PutsOne grown taken takes buffer
  puts_first grown taken takes buffer done [] holders parts lists grown_are can takes_are = absurd takes_are
  puts_first grown taken takes buffer done (waiter ∷ rest) holders parts lists grown_are can takes_are = record {
    waiter = waiter;
    rest = rest;
    before = both_hold held (held_by holders);
    can = can;
    take_is = takes_are.0;
    after = λ one new put.
        let holder = grown_holder waiter position one.node in
        let more = holders ++ holder ∷ [] in
        record {
          done = done ++ waiter ∷ [];
          rest = rest;
          parts = parts ∙ sym (append_assoc done (waiter ∷ []) rest);
          holders = more;
          lists = map-append (λ (h : Holder). h.list) holders (holder ∷ []) ∙ ap (λ l. l ++ taking waiter position ∷ []) lists
              ∙ sym (map-append (λ (w : Waiter). taking w position) done (waiter ∷ []));
          grown_are = AreGrownOf-push plan events holders grown holder one grown_are put.grown_is;
          can = subst (λ (h : Holds). CanPutAll plan events position event rest h new)
              (λ i list key. one_more holder holders list key i) put.can;
          takes_are = takes_are.1;
        };
  } where
    one_more : (holder : Holder) (holders : List Holder) (list : List Entry) (key : ℕ)
        → with_hold holder (both_hold held (held_by holders)) list key ≡ both_hold held (held_by (holders ++ holder ∷ [])) list key
    one_more holder holders list key = omega (arith, held_by-append holders (holder ∷ []) list key, held_by-cons holder [] list key)

  pub puts_one : (grown : List Grown) (taken : Take) (takes : List Take) (buffer : BufferContent)
      → PuttingSome plan events position event waiters held grown (taken ∷ takes) buffer → PutsOne grown taken takes buffer
  puts_one grown taken takes buffer so_far =
      puts_first grown taken takes buffer so_far.done so_far.rest so_far.holders so_far.parts so_far.lists so_far.grown_are so_far.can so_far.takes_are

  pub puts_begin : (takes : List Take) (buffer : BufferContent) → CanPutAll plan events position event waiters held buffer
      → AreTakesOf plan events position waiters takes → PuttingSome plan events position event waiters held [] takes buffer
  puts_begin takes buffer can are = record {
    done = [];
    rest = waiters;
    parts = refl;
    holders = [];
    lists = refl;
    grown_are = tt;
    can = subst (λ (h : Holds). CanPutAll plan events position event waiters h buffer) (λ i list key. none list key i) can;
    takes_are = are;
  } where
    none : (list : List Entry) (key : ℕ) → held list key ≡ both_hold held (held_by []) list key
    none list key = omega arith

  pub some_puts : (grown : List Grown) (taken : Take) (takes : List Take) (buffer : BufferContent)
      → PuttingSome plan events position event waiters held grown (taken ∷ takes) buffer → CanPutSome event taken buffer
  some_puts grown taken takes buffer so_far =
      let one = puts_one grown taken takes buffer so_far in
      record {
        plan = plan;
        events = events;
        position = position;
        waiter = one.waiter;
        waiters = one.rest;
        held = one.before;
        can =
            one.can;
        take_is = one.take_is;
      }

  none_left : (rest : List Waiter) → AreTakesOf plan events position rest [] → rest ≡ []
  none_left [] are = refl
  none_left (w ∷ rest) are = absurd are

  pub puts_all : (grown : List Grown) (takes : List Take) (buffer : BufferContent) → length takes ≡ 0
      → PuttingSome plan events position event waiters held grown takes buffer → HasPutAll plan events position waiters held grown buffer
  puts_all grown [] buffer none so_far =
      let whole : waiters ≡ so_far.done = so_far.parts ∙ ap (λ l. so_far.done ++ l) (none_left so_far.rest so_far.takes_are) ∙ append-nil so_far.done in
      record {
        holders = so_far.holders;
        lists = so_far.lists ∙ ap (map (λ (w : Waiter). taking w position)) (sym whole);
        grown_are = so_far.grown_are;
        has = so_far.can.has;
      }
  puts_all grown (taken ∷ takes) buffer none so_far = absurd (omega (arith, none))
