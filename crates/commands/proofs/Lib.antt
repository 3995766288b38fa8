-- Laws of PCM commands.
pub mod Laws
