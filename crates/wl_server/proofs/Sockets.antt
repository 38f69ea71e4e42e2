-- Messages that were read, one after another.
use Rattle.std.proofs.Common.{◌≡◌, ◌≤◌, ◌⊎◌, ◌||◌, inl, inr, true, arith, subst, refl, ℕ, List, [], ◌∷◌, ◌++◌, Option}
use Rattle.std.proofs.Common.{Ok}
use Rattle.tungstenite.specs.Connection.{write_step}
use Rattle.tungstenite.specs.Content.{Content, text, binary}
use Rattle.tungstenite.specs.Socket.{Socket, Reads, Writes, content_of, kind_of, has_kind}
use Rattle.tungstenite.specs.declared.message.Message.{Message}
use Rattle.tungstenite.specs.declared.message.Message.TheVariants as Kind
use Rattle.wl_server.specs.Sockets.{Idles, Hears, Sends}

module _ {S : Type 0} (remaining : S → Option (List ℕ)) where
  -- and one more
  pub idles_more : (ms : List Message) (m : Message) (old now new : Socket S) → Idles remaining old ms now
      → Reads remaining now new (Ok m) → 2 ≤ kind_of m
      → Idles remaining old (ms ++ m ∷ []) new
  idles_more [] m old now new before came idle = (
    new,
    subst (λ s. Reads remaining s new (Ok m)) before came,
    idle,
    refl,
  )
  idles_more (x ∷ ms) m old now new before came idle =
      let (next, first, passes, rest) = before in
      (next, first, passes, idles_more ms m next now new rest came idle)

  -- and then one with a text or with bytes
  pub heard : (ms : List Message) (m : Message) (old now new : Socket S) (words : List ℕ) → Idles remaining old ms now
      → Reads remaining now new (Ok m)
      → (content_of m ≡ text words) ⊎ (content_of m ≡ binary words) → Hears remaining old words new
  heard ms m old now new words before came (inl is) = inl (ms, now, m, before, came, is)
  heard ms m old now new words before came (inr is) = inr (ms, now, m, before, came, is)

-- a ping or a pong
pub idle : (m : Message) → (has_kind 2 m || has_kind 3 m) ≡ true → 2 ≤ kind_of m
idle (Kind.Text s) h = grind (arith, h)
idle (Kind.Binary s) h = grind (arith, h)
idle (Kind.Ping s) h = omega arith
idle (Kind.Pong s) h = omega arith
idle (Kind.Close frame) h = omega arith

-- a message of this line, as a text or as bytes, was sent
pub sent : {S : Type 0} (contents : S → Option (List ℕ)) (old new : Socket S) (content : Content) (line : List ℕ)
    → (content ≡ text line) ⊎ (content ≡ binary line)
    → Writes contents old new (write_step old.conn content) → new.output ≡ []
    → Sends contents old (text line) new ⊎ Sends contents old (binary line) new
sent contents old new content line (inl is) wrote empty = inl
    (subst (λ k. Writes contents old new (write_step old.conn k)) is wrote, empty)
sent contents old new content line (inr is) wrote empty = inr
    (subst (λ k. Writes contents old new (write_step old.conn k)) is wrote, empty)
