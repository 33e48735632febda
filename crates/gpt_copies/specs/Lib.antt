-- The two copies in the words of gpt_model.
pub mod States
