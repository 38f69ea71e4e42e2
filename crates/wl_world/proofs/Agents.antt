-- A line of an agent that is open, from what its operation is.
use Rattle.std.proofs.Common.{◌≡◌, ◌+◌, ℕ, [], map, ap, sym, ◌∙◌, Bool, true, false, Option}
use Rattle.std.specs.Prelude.{if◌then◌else◌}
use Rattle.wl_codec.specs.declared.message.Body.{Body}
use Rattle.wl_codec.specs.declared.reply.Outcome.{Outcome}
use Rattle.wl_session.specs.Step as session
use Rattle.wl_world.specs.Entries.{agent_entries, command_entries, reply_entries, take_entries}
use Rattle.wl_world.specs.Journals.{with_more}
use Rattle.wl_world.specs.Requests.{changed_requests}
use Rattle.wl_world.specs.Origins.{Acted, Origin, act, as_taken, command_of, origin_after_collect}
use Rattle.wl_world.specs.Agents.{Served, answering, after_reply, serve_result}
use Rattle.wl_world.specs.inner.Views.{act_result_of}
use Rattle.wl_world.proofs.Entries.{more_twice, no_more}

module _ (o done : Origin) (agent : ℕ) (s : session.State) (id : ℕ) (b : Body) (out : Outcome)
    (is : act_result_of done out ≡ act o agent b) where
  abbrev after_collect : Served
  after_collect = answering (origin_after_collect agent (changed_requests agent done.requests) done) s id out
      (map as_taken (changed_requests agent done.requests))

  replies : after_reply done agent s id out ≡ serve_result o agent s id b
  replies = unfold serve_result in ap (λ (x : Acted). after_reply x.origin agent s id x.outcome) is

  -- the reply has no notices
  pub left_quietly : session.carries_notices out ≡ false → done ≡ (serve_result o agent s id b).origin
  left_quietly quiet = ap (λ carries_notices. (if carries_notices then after_collect
      else answering done s id out []).origin) (sym quiet) ∙ ap (λ (x : Served). x.origin) replies

  -- the reply has notices
  pub left_telling : (left : Origin) → session.carries_notices out ≡ true
      → left ≡ origin_after_collect agent (changed_requests agent done.requests) done
      → left ≡ (serve_result o agent s id b).origin
  left_telling left loud is_left = is_left ∙ ap (λ carries_notices.
      (if carries_notices then after_collect else answering done s id out []).origin) (sym loud)
      ∙ ap (λ (x : Served). x.origin) replies

  -- the takes of the reply, from whether it has notices
  with_takes : (c : Bool) (old : Option ℕ) → session.carries_notices out ≡ c
      → with_more (if c then take_entries done.state (changed_requests agent done.requests) else 0)
      (with_more (command_entries o.state (command_of agent b)) old)
      ≡ with_more (agent_entries o agent b) old
  with_takes c old is_c =
      ap (λ c. with_more (if c then take_entries done.state (changed_requests agent done.requests) else 0)
      (with_more (command_entries o.state (command_of agent b)) old)) (sym is_c)
      ∙ more_twice (command_entries o.state (command_of agent b)) (reply_entries agent (act_result_of done out)) old
      ∙ ap (λ a. with_more (command_entries o.state (command_of agent b) + reply_entries agent a) old) is

  pub entries_quietly : (old new : Option ℕ) → session.carries_notices out ≡ false
      → new ≡ with_more (command_entries o.state (command_of agent b)) old
      → new ≡ with_more (agent_entries o agent b) old
  entries_quietly old new quiet grew = grew ∙ no_more (with_more (command_entries o.state (command_of agent b)) old)
      ∙ with_takes false old quiet

  pub entries_telling : (old mid new : Option ℕ) → session.carries_notices out ≡ true
      → mid ≡ with_more (command_entries o.state (command_of agent b)) old
      → new ≡ with_more (take_entries done.state (changed_requests agent done.requests)) mid
      → new ≡ with_more (agent_entries o agent b) old
  entries_telling old mid new loud grew took =
      took ∙ ap (with_more (take_entries done.state (changed_requests agent done.requests))) grew
      ∙ with_takes true old loud
