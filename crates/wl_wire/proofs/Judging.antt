-- What comes of a handshake, by what comes of its headers' values.
use Rattle.std.proofs.Common.{◌≡◌, ℕ, List, [], codes, refl, subst}
use Rattle.std.proofs.Common.{Option, None, Some, IfSome, option_map, Result, Ok, Err}
use Rattle.http_header.specs.FieldValue.{FieldValue}
use Rattle.http_header.specs.HeaderMap.{Entries}
use Rattle.wl_admission.specs.Handshakes.{Answers, terms_for, terms_of}
use Rattle.wl_admission.specs.Scopes.{reach_of}
use Rattle.wl_admission.specs.Tokens.{rules_of}
use Rattle.wl_admission.specs.declared.admitting.Admitted.{Admitted}
use Rattle.wl_admission.specs.declared.admitting.Rules.{Rules}
use Rattle.wl_admission.specs.declared.rejection.Rejection.{Rejection}
use Rattle.wl_admission.specs.declared.rejection.Rejection.TheVariants.{Memory}
use Rattle.wl_wire.specs.Greetings.{Judges, Refuses, terms_in, values_of}

module _ (rules : Rules) (target : List ℕ) (headers : Entries FieldValue) where
  -- an answer to the handshake's own terms
  own : (result : Result Admitted Rejection) → Answers terms_for (terms_in rules target headers) result
      → Judges rules target headers result
  own (Ok admitted) answers = answers
  own (Err reason) answers = λ text memory. answers memory

  -- an answer to terms of these values, which are those of its headers
  pub judged : {origins authorizations subprotocols : List (List ℕ)} (result : Result Admitted Rejection)
      → origins ≡ values_of headers (codes "origin") → authorizations ≡ values_of headers (codes "authorization")
      → subprotocols ≡ values_of headers (codes "sec-websocket-protocol")
      → Answers terms_for (terms_of rules.is_sharded (reach_of rules.trusted) (option_map rules_of rules.tokens)
      rules.has_fences target origins authorizations subprotocols) result
      → Judges rules target headers result
  judged {origins} {authorizations} {subprotocols} result o a s answers =
      let terms : List (List ℕ) → List (List ℕ) → List (List ℕ) → Type 0 =
      λ os ts ss. Answers terms_for (terms_of rules.is_sharded (reach_of rules.trusted)
      (option_map rules_of rules.tokens) rules.has_fences target os ts ss) result
      in
      let with_origins = subst (λ os. terms os authorizations subprotocols) o answers in
      let with_tokens = subst (λ ts. terms (values_of headers (codes "origin")) ts subprotocols) a with_origins in
      own result (subst (λ ss. terms (values_of headers (codes "origin"))
      (values_of headers (codes "authorization")) ss) s with_tokens)

-- whatever the rules, a handshake may be refused for want of memory
pub refused_for_memory : {X : Type 0} (rules_at : X → Rules) (headers : Entries FieldValue) (there : Option X)
    → IfSome there (λ x. Refuses (rules_at x) headers Memory)
refused_for_memory rules_at headers None = tt
refused_for_memory rules_at headers (Some x) = ([], λ text memory. absurd (memory refl))
