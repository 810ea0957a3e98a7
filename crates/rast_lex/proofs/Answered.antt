-- An answer that is right is the only one.
use Rattle.std.proofs.Common.{ℕ, List, Result, Ok, Err, refl, inl, inr}
use Rattle.rast_lex.specs.declared.token.Token.{Token}
use Rattle.rast_lex.specs.declared.token.LexErr.{LexErr}
use Rattle.rast_lex.specs.declared.token.LexErr.TheVariants as error
use Rattle.rast_lex.specs.Tokens.{AreTokens, IsFirstFault, Lexes, GivesTokens, GivesFault}
use Rattle.rast_lex.proofs.Unique.{one_list, no_list, one_fault}

module _ (V : Type 0) (items : V → List Token) (text : List ℕ) where
  pub tokens_only : (r : Result V LexErr) → Lexes items text r → (ts : List Token) → AreTokens text ts → GivesTokens items ts r
  tokens_only (Ok v) h ts k = one_list text (items v) ts h k
  tokens_only (Err error.Memory) h ts k = refl
  tokens_only (Err (error.BadByte at)) h ts k = absurd (no_list text ts (error.BadByte at) k h)
  tokens_only (Err (error.BadNumber at)) h ts k = absurd (no_list text ts (error.BadNumber at) k h)
  tokens_only (Err (error.LongName at)) h ts k = absurd (no_list text ts (error.LongName at) k h)

  pub fault_only : (r : Result V LexErr) → Lexes items text r → (e : LexErr) → IsFirstFault text e → GivesFault e r
  fault_only (Ok v) h e k = no_list text (items v) e h k
  fault_only (Err error.Memory) h e k = inr refl
  fault_only (Err (error.BadByte at)) h e k = inl (one_fault text (error.BadByte at) e h k)
  fault_only (Err (error.BadNumber at)) h e k = inl (one_fault text (error.BadNumber at) e h k)
  fault_only (Err (error.LongName at)) h e k = inl (one_fault text (error.LongName at) e h k)
